-- How what a line says is spelled, with numbers as shortest decimals and without quotes.
use Rattle.std.specs.Prelude.{ℕ, List, [], ◌∷◌, ◌++◌, FitsSigned, IfSome}
use Rattle.std.specs.Fmt.{signed_decimal}
use Rattle.std.specs.Int.{w64}
use Rattle.tilt_feed.specs.declared.update.Update.{Update}
use Rattle.tilt_feed.specs.declared.update.Update.TheVariants as update
use Rattle.tilt_stream.specs.Text.{cell_text}

-- four fields, with a comma between two of them
abbrev pub fields_text : List ℕ → List ℕ → List ℕ → List ℕ → List ℕ
fields_text name start end value = name ++ 44 ∷ (start ++ 44 ∷ (end ++ 44 ∷ value))

-- an update of the input with this name
abbrev pub update_text : List ℕ → Update → List ℕ
update_text name (update.Row start end value) = fields_text name (signed_decimal start) (signed_decimal end) (cell_text value)
update_text name (update.Value start value) = fields_text name (signed_decimal start) [] (signed_decimal value)
update_text name (update.NoValue start) = fields_text name (signed_decimal start) [] []
update_text name (update.KnownUpTo watermark) = fields_text name [] (signed_decimal watermark) []

-- its numbers are of 64 bits
abbrev pub FitsUpdate : Update → Type 0
FitsUpdate (update.Row start end value) = FitsSigned w64 start × FitsSigned w64 end × IfSome value (FitsSigned w64)
FitsUpdate (update.Value start value) = FitsSigned w64 start × FitsSigned w64 value
FitsUpdate (update.NoValue start) = FitsSigned w64 start
FitsUpdate (update.KnownUpTo watermark) = FitsSigned w64 watermark
