-- Whether a record is the only one.
use Rattle.std.proofs.Common.{◌≡◌, ℕ, suc, ◌+◌, Bool, true, false, List, [], ◌∷◌, length, Option, Some, None, refl, arith}
use Rattle.std.specs.Prelude.{not}
use Rattle.csv.specs.Machine.{Read, next_record}
use Rattle.csv.specs.Reading.{records, records_from, records_next}
use Rattle.csv.specs.declared.parser.State.{State}
use Rattle.csv.specs.declared.parser.State.TheVariants as st
use Rattle.tilt_reading_lines.specs.Records.{IsOnly, Takes, config_of, only_fields}

-- no record was found
pub none_found : (delimiter : ℕ) (bytes : List ℕ) (fields : List (List ℕ)) (after : Option Read)
    → Takes delimiter (next_record (config_of delimiter) st.StartRecord [] [] bytes) false fields after
    → only_fields (records (config_of delimiter) bytes) ≡ None
unfolding records_from
none_found delimiter bytes fields after taken =
    let one : length bytes + 1 ≡ suc (length bytes) = omega arith in
    rw one (by (next_record (config_of delimiter) st.StartRecord [] [] bytes) taken)
  where
    by : (first : Option Read) → Takes delimiter first false fields after
        → only_fields (records_next (records_from (config_of delimiter) (length bytes)) first) ≡ None
    by None taken = refl
    by (Some read) taken = cc taken.0

-- after a first record a second was found, or not
second_found : (delimiter : ℕ) (more : State → List ℕ → List (List (List ℕ))) (fields second : List (List ℕ)) (found : Bool)
    (last next : Option Read) → Takes delimiter next found second last → IsOnly (not found) fields (fields ∷ records_next more next)
second_found delimiter more fields second found last None taken = rw taken refl
second_found delimiter more fields second found last (Some read) taken = rw taken.0 refl

-- a record was found, and then a second or none
pub one_found : (delimiter : ℕ) (bytes : List ℕ) (fields second : List (List ℕ)) (found : Bool) (after last : Option Read)
    → Takes delimiter (next_record (config_of delimiter) st.StartRecord [] [] bytes) true fields after → Takes delimiter after found second last
    → IsOnly (not found) fields (records (config_of delimiter) bytes)
unfolding records_from next_record
one_found delimiter [] fields second found after last first taken = cc first
one_found delimiter (c ∷ rest) fields second found after last first taken =
    let two : length (c ∷ rest) + 1 ≡ suc (suc (length rest)) = omega arith in
    rw two (by (next_record (config_of delimiter) st.StartRecord [] [] (c ∷ rest)) first)
  where
    by : (next : Option Read) → Takes delimiter next true fields after
        → IsOnly (not found) fields (records_next (records_from (config_of delimiter) (suc (length rest))) next)
    by None first = cc first
    by (Some read) first =
        let then : Takes delimiter (next_record (config_of delimiter) read.1 [] [] read.2) found second last = rw first.2 at taken in
        rw first.1
        (second_found delimiter (records_from (config_of delimiter) (length rest)) read.0 second found last
        (next_record (config_of delimiter) read.1 [] [] read.2) then)
