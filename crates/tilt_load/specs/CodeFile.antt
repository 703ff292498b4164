-- What a code file gives: a code, or the first reason why it is none.
use Rattle.std.specs.Prelude.{◌≡◌, ◌<◌, ◌≤◌, List, ℕ, length}
use Rattle.tilt_base.specs.declared.limits.TheConstants.{FILE}
use Rattle.tilt_code.specs.Code.{CodeParts}
use Rattle.tilt_code.specs.Fault.{IsBadLine, IsBadReference}
use Rattle.tilt_code.specs.Listing.{listing}
use Rattle.tilt_code.specs.References.{IsCode}
use Rattle.tilt_report.specs.Report.{Reason, file_too_long, bad_code, bad_reference}

-- the text is no longer than a file may be, and it is the listing of this code
pub record TakesCode (bytes : List ℕ) (code : CodeParts) : Type 0 where
  pub short : length bytes ≤ FILE
  pub good : IsCode code
  pub listed : bytes ≡ listing code

-- why the code file of a name is rejected: it is too long, a line can't be where it is, or a line names what isn't defined before it
pub data RefusesCode (name bytes : List ℕ) : Reason → Type 0 where
  long : FILE < length bytes → RefusesCode name bytes (file_too_long name)
  line : (number : ℕ) → length bytes ≤ FILE → IsBadLine bytes number → RefusesCode name bytes (bad_code number)
  reference : (in_loop number : ℕ) → length bytes ≤ FILE → IsBadReference bytes in_loop number
      → RefusesCode name bytes (bad_reference in_loop number)
