-- Up to where a session is handed the rows of its inputs, as the value of `--upto` says it (our own rule).
use Rattle.std.specs.Prelude.{◌≡◌, ◌≢◌, ◌==◌, ℕ, ℤ, neg_ℤ, ◌≤ℤ◌, List, [], map}
use Rattle.std.specs.List.{AllByRecursion, AllZip, after_first, before_first, slice_split}
use Rattle.tilt_base.specs.declared.limits.TheConstants.{T}
use Rattle.tilt_lexer.specs.Word.{IsWord}
use Rattle.tilt_cli.specs.Number.{IsNumber}
use Rattle.tilt_cli.specs.declared.cut_bind.CutBind.{CutBind}
use Rattle.tilt_cli.specs.declared.upto.Upto.{Upto}
use Rattle.tilt_cli.specs.declared.upto.Upto.TheVariants as variant

-- an input's name, and the cut below which its rows start
pub record CutBinding : Type 0 where
  pub name : List ℕ
  pub cut : ℤ

-- one cut for all inputs, or a cut for each name
pub data UptoValue : Type 0 where
  all : (cut : ℤ) → UptoValue
  each : (cuts : List CutBinding) → UptoValue

-- the word is `NAME=TIME`, cut at its first `=`: a word of the query language, reserved or not, and a time
pub record IsCutBinding (word : List ℕ) (binding : CutBinding) : Type 0 where
  pub spelled : before_first (λ b. b == 61) word ≡ binding.name
  pub named : IsWord binding.name
  pub time : IsNumber (neg_ℤ T) T (after_first (λ b. b == 61) word) binding.cut

-- the parts of a word between its commas
abbrev pub parts_of : List ℕ → List (List ℕ)
parts_of word = slice_split (λ b. b == 44) word

-- the parts of the word are those, one after another
abbrev pub AreCutBindings : List ℕ → List CutBinding → Type 0
AreCutBindings word cuts = AllZip IsCutBinding (parts_of word) cuts

-- the word is a time for all inputs, or `NAME=TIME,NAME=TIME ..`
abbrev pub IsUpto : List ℕ → UptoValue → Type 0
IsUpto word (all cut) = IsNumber (neg_ℤ T) T word cut
IsUpto word (each cuts) = AreCutBindings word cuts

-- a cut lies between its bounds
abbrev pub IsTime : ℤ → Type 0
IsTime cut = (neg_ℤ T ≤ℤ cut) × (cut ≤ℤ T)

-- each cut does, and if names have cuts there is a name
abbrev pub IsUptoWithin : UptoValue → Type 0
IsUptoWithin (all cut) = IsTime cut
IsUptoWithin (each cuts) = (cuts ≢ []) × AllByRecursion (λ binding. IsTime binding.cut) cuts

-- a name and its cut, as bytes and a number
abbrev pub cut_binding_of : CutBind → CutBinding
cut_binding_of bind = record { name = bind.name; cut = bind.cut }

-- each of them
abbrev pub cut_bindings_of : List CutBind → List CutBinding
cut_bindings_of binds = map cut_binding_of binds

-- what `--upto` says, as bytes and numbers
abbrev pub upto_of : Upto → UptoValue
upto_of (variant.All cut) = all cut
upto_of (variant.Each binds) = each (cut_bindings_of binds.items)
