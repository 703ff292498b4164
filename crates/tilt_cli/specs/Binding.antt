-- Binds: a word of the command line that gives an input its file (our own rule).
use Rattle.std.specs.Prelude.{◌≢◌, ◌==◌, ℕ, List, [], map, string_bytes}
use Rattle.std.specs.List.{before_first, after_first}
use Rattle.tilt_lexer.specs.Word.{IsWord}
use Rattle.tilt_cli.specs.declared.bind.Bind.{Bind}

-- an input's name, and the name of the file that is bound to it
pub record Binding : Type 0 where
  pub name : List ℕ
  pub file : List ℕ

-- a word that is cut at its first `=`: the name before it, and the file after it, which is empty if there is no `=`
abbrev pub binding_spelled : List ℕ → Binding
binding_spelled word = record { name = before_first (λ b. b == 61) word; file = after_first (λ b. b == 61) word }

-- a name that is a word of the query language, reserved or not, and the name of a file that isn't empty
pub record IsBinding (binding : Binding) : Type 0 where
  pub named : IsWord binding.name
  pub file_named : binding.file ≢ []

-- a bind, as bytes
abbrev pub binding_of : Bind → Binding
binding_of bind = record { name = bind.name; file = string_bytes bind.file }

-- each of them, as bytes
abbrev pub bindings_of : List Bind → List Binding
bindings_of binds = map binding_of binds
