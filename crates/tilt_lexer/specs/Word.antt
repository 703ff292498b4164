-- Words, and which of them are reserved (our own rule). A byte is its ASCII code.
use Rattle.std.specs.Prelude.{◌≡◌, ℕ, Bool, false, ◌&&◌, ◌||◌, ◌==◌, List, [], ◌∷◌, ◌++◌, map, codes, Contains, IsTrue, ⊤}
use Rattle.std.specs.Char.{is_ascii_alphabetic, is_ascii_digit}
use Rattle.std.specs.List.{list_all}
use Rattle.tilt_base.specs.Reduce.{reducer_word}
use Rattle.tilt_base.specs.declared.reducer.TheConstants.{REDUCERS}
use Rattle.tilt_lexer.specs.declared.key.Key.{Key}
use Rattle.tilt_lexer.specs.declared.key.Key.TheVariants as key

-- a letter or `_`, with which a word begins
abbrev pub begins_word : ℕ → Bool
begins_word b = is_ascii_alphabetic b || b == 95

-- a letter, a digit or `_`, with which a word goes on
abbrev pub goes_on_word : ℕ → Bool
goes_on_word b = begins_word b || is_ascii_digit b

-- whether the bytes are a word
abbrev pub is_word : List ℕ → Bool
is_word [] = false
is_word (b ∷ bs) = begins_word b && list_all goes_on_word bs

-- the bytes are a word: a letter or `_`, and then letters, digits and `_`
abbrev pub IsWord : List ℕ → Type 0
IsWord bytes = IsTrue (is_word bytes)

-- the text of a reserved word
abbrev pub key_text : Key → List ℕ
key_text key.Input = codes "input"
key_text key.Let = codes "let"
key_text key.Emit = codes "emit"
key_text key.Over = codes "over"
key_text key.Every = codes "every"
key_text key.From = codes "from"
key_text key.If = codes "if"
key_text key.Then = codes "then"
key_text key.Else = codes "else"
key_text key.When = codes "when"
key_text key.Or = codes "or"
key_text key.And = codes "and"
key_text key.Not = codes "not"
key_text key.TrueWord = codes "true"
key_text key.FalseWord = codes "false"
key_text key.IsNull = codes "isnull"
key_text key.IfNull = codes "ifnull"
key_text key.Time = codes "t"
key_text (key.Reducer r) = reducer_word r

-- each reserved word
abbrev pub keys : List Key
keys =
    (key.Input ∷ key.Let ∷ key.Emit ∷ key.Over ∷ key.Every ∷ key.From ∷ key.If ∷
    key.Then ∷ key.Else ∷ key.When ∷ key.Or ∷ key.And ∷ key.Not ∷ key.TrueWord ∷
    key.FalseWord ∷ key.IsNull ∷ key.IfNull ∷ key.Time ∷ []) ++ map key.Reducer REDUCERS

-- the bytes are the text of a reserved word
abbrev pub IsReserved : List ℕ → Type 0
IsReserved bytes = (k : Key) × (key_text k ≡ bytes)

-- a name that an input, or another source, may have: a word that isn't reserved
abbrev pub IsName : List ℕ → Type 0
IsName bytes = IsWord bytes × ¬ (IsReserved bytes)

-- no name occurs twice
abbrev pub AreDistinct : List (List ℕ) → Type 0
AreDistinct [] = ⊤
AreDistinct (name ∷ names) = ¬ (Contains names name) × AreDistinct names
