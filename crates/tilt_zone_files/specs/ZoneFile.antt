-- What the file of a zone gives: the table of the zone, or the reason why it gives none.
use Rattle.jiff_core.specs.declared.error.Error.{Error}
use Rattle.jiff_core.specs.declared.error.Error.TheVariants.{OutOfMemory}
use Rattle.jiff_tz.specs.Tzif.{IsParseFailure, tzif_view}
use Rattle.jiff_tz.specs.TzifReader.{read_tzif}
use Rattle.jiff_tz.specs.declared.tzif.Tzif.{Tzif}
use Rattle.std.specs.Prelude.{◌≡◌, ◌≢◌, ◌<◌, ◌≤◌, ◌++◌, ℕ, List, length, codes, Ok}
use Rattle.tilt_base.specs.declared.limits.TheConstants.{FILE}
use Rattle.tilt_zones.specs.Order.{IsInOrder}
use Rattle.tilt_zones.specs.Table.{first_of, transitions_of, zone_of}
use Rattle.tilt_zones.specs.Zone.{ZoneParts}

-- the file of the zone of that name
abbrev pub zone_path : List ℕ → List ℕ
zone_path name = codes "/usr/share/zoneinfo/" ++ name

-- the text is no longer than a file may be, and it is a file of the time zone database that has this table
pub record HasTable (bytes : List ℕ) (table : ZoneParts) : Type 0 where
  pub short : length bytes ≤ FILE
  pub file : Tzif
  pub read : read_tzif bytes ≡ Ok (tzif_view file)
  pub is : table ≡ zone_of file

-- the text has no table of a zone: it is too long, it isn't a file of the database, or its transitions aren't in order. A file whose rule
-- disagrees with its last transition isn't one of the database either
pub data HasNoTable (bytes : List ℕ) : Type 0 where
  long : FILE < length bytes → HasNoTable bytes
  unread : (why : Error) → length bytes ≤ FILE → IsParseFailure why bytes → why ≢ OutOfMemory → HasNoTable bytes
  disordered : (file : Tzif) → length bytes ≤ FILE → read_tzif bytes ≡ Ok (tzif_view file)
      → ¬ (IsInOrder (first_of file) (transitions_of file)) → HasNoTable bytes
