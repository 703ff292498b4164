-- The texts of the options, as bytes.
use Rattle.std.specs.Prelude.{ℕ, ◌==◌, Bool, List, Option, option_map, String, string_bytes}
use Rattle.std.specs.List.{slice_split}
use Rattle.std.specs.declared.alloc.Global.{Global}

-- a text that may be given
abbrev pub given : Option (String Global) → Option (List ℕ)
given text = option_map (λ t. string_bytes t) text

-- the texts that were given, and which of the two options without a text were
pub record TextsValue : Type 0 where
  pub time : List ℕ
  pub name : Option (List ℕ)
  pub value : Option (List ℕ)
  pub tick : Option (List ℕ)
  pub origin : Option (List ℕ)
  pub unit : Option (List ℕ)
  pub zone : Option (List ℕ)
  pub fold : Option (List ℕ)
  pub scale : Option (List ℕ)
  pub event : Bool
  pub events : Option (List ℕ)
  pub max_age : Option (List ℕ)
  pub closed : Option (List ℕ)
  pub ties : Option (List ℕ)
  pub null : Option (List ℕ)
  pub skips_empty : Bool
  pub delimiter : Option (List ℕ)
  pub decimal : Option (List ℕ)

-- the parts of a text between its commas
abbrev pub parts_of : List ℕ → List (List ℕ)
parts_of text = slice_split (λ b. b == 44) text
