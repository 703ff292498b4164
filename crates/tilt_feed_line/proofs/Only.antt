-- Whether a record is the only one.
use Rattle.std.proofs.Common.{◌≡◌, ℕ, suc, ◌+◌, Bool, true, false, List, [], ◌∷◌, length, Option, Some, None, Err, refl, arith}
use Rattle.std.specs.Prelude.{not}
use Rattle.csv.specs.Machine.{Read, next_record}
use Rattle.csv.specs.Reading.{default_config, records, records_from, records_next}
use Rattle.csv.specs.declared.parser.State.{State}
use Rattle.csv.specs.declared.parser.State.TheVariants as st
use Rattle.tilt_feed_line.specs.Lines.{only_record}
use Rattle.tilt_feed_line.specs.Records.{IsOnly, Takes}
use Rattle.tilt_feed_line.specs.declared.fault.LineFault.TheVariants.{NotOneRecord}

-- no record was found
pub none_found : (bytes : List ℕ) (fields : List (List ℕ)) (after : Option Read)
    → Takes (next_record default_config st.StartRecord [] [] bytes) false fields after
    → only_record (records default_config bytes) ≡ Err NotOneRecord
unfolding records_from
none_found bytes fields after taken =
    let one : length bytes + 1 ≡ suc (length bytes) = omega arith in
    rw one (by (next_record default_config st.StartRecord [] [] bytes) taken)
  where
    by : (first : Option Read) → Takes first false fields after
        → only_record (records_next (records_from default_config (length bytes)) first) ≡ Err NotOneRecord
    by None taken = refl
    by (Some read) taken = cc taken.0

-- after a first record a second was found, or not
second_found : (more : State → List ℕ → List (List (List ℕ))) (fields second : List (List ℕ)) (found : Bool) (last next : Option Read)
    → Takes next found second last → IsOnly (not found) fields (fields ∷ records_next more next)
second_found more fields second found last None taken = rw taken refl
second_found more fields second found last (Some read) taken = rw taken.0 refl

-- a record was found, and then a second or none
pub one_found : (bytes : List ℕ) (fields second : List (List ℕ)) (found : Bool) (after last : Option Read)
    → Takes (next_record default_config st.StartRecord [] [] bytes) true fields after → Takes after found second last
    → IsOnly (not found) fields (records default_config bytes)
unfolding records_from next_record
one_found [] fields second found after last first taken = cc first
one_found (c ∷ rest) fields second found after last first taken =
    let two : length (c ∷ rest) + 1 ≡ suc (suc (length rest)) = omega arith in
    rw two (by (next_record default_config st.StartRecord [] [] (c ∷ rest)) first)
  where
    by : (next : Option Read) → Takes next true fields after
        → IsOnly (not found) fields (records_next (records_from default_config (suc (length rest))) next)
    by None first = cc first
    by (Some read) first =
        let then : Takes (next_record default_config read.1 [] [] read.2) found second last = rw first.2 at taken in
        rw first.1
        (second_found (records_from default_config (length rest)) read.0 second found last
        (next_record default_config read.1 [] [] read.2) then)
