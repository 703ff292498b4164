-- The inputs, one after another.
use Rattle.std.proofs.Common.{◌≡◌, List, [], ◌∷◌, ◌++◌, ℕ, suc, length, Result, Ok, Err, refl, sym, ap, ◌∙◌}
use Rattle.tilt_stream.specs.Snap.{Snapshot}
use Rattle.tilt_load.specs.SeriesFiles.{with_rows, input_read, inputs_read}
use Rattle.tilt_report.specs.Report.{Reason}
use Rattle.tilt_series.specs.Series.{Bounds}
use Rattle.tilt_cli.specs.Binding.{Binding}
use Rattle.tilt_load.specs.Inputs.{file_of}

-- the rows before others, if there was no refusal
pub record AreBoth (first : Result (List Snapshot) Reason) (others : Result (List (List Snapshot)) Reason) (all : List (List Snapshot)) : Type 0 where
  pub one : List Snapshot
  pub more : List (List Snapshot)
  pub one_is : first ≡ Ok one
  pub more_is : others ≡ Ok more
  pub all_is : all ≡ one ∷ more

pub both_taken : (first : Result (List Snapshot) Reason) (others : Result (List (List Snapshot)) Reason) (all : List (List Snapshot)) → with_rows first others ≡ Ok all → AreBoth first others all
both_taken (Err why) others all is = cc
both_taken (Ok rows) (Err why) all is = cc
both_taken (Ok rows) (Ok others) all is = record { one = rows; more = others; one_is = refl; more_is = refl; all_is = cc }

both_more : (first : Result (List Snapshot) Reason) (others : Result (List (List Snapshot)) Reason) (one : List Snapshot) (more : List (List Snapshot)) → first
    ≡ Ok one → others ≡ Ok more → with_rows first others ≡ Ok (one ∷ more)
both_more first others one more p q = rw (p, q) refl

-- there is a list of rows for each input
pub read_many : (files : List ℕ → List ℕ) (binds : List Binding) (bounds : ℕ → Bounds) (names : List (List ℕ)) (rows : List (List Snapshot))
    → inputs_read files binds bounds names ≡ Ok rows → length rows ≡ length names
read_many files binds bounds [] rows is =
    let none : rows ≡ [] = cc in
    rw none refl
read_many files binds bounds (n ∷ ns) rows is =
    let behind : ℕ → Bounds = λ place. bounds (suc place) in
    let both = both_taken (input_read files (bounds 0) (file_of binds n) n) (inputs_read files binds behind ns) rows is in
    let more = read_many files binds behind ns both.more both.more_is in
    rw both.all_is (ap suc more)

module _ (files : List ℕ → List ℕ) (binds : List Binding) where
  -- one more input is taken, within the bounds of its place
  pub read_more : (bounds : ℕ → Bounds) (names : List (List ℕ)) (rows : List (List Snapshot)) (name : List ℕ) (new : List Snapshot)
      → inputs_read files binds bounds names ≡ Ok rows → input_read files (bounds (length names)) (file_of binds name) name ≡ Ok new
      → inputs_read files binds bounds (names ++ name ∷ []) ≡ Ok (rows ++ new ∷ [])
  read_more bounds [] rows name new is taken =
      let none : rows ≡ [] = cc in
      rw (taken, none) refl
  read_more bounds (n ∷ ns) rows name new is taken =
      let behind : ℕ → Bounds = λ place. bounds (suc place) in
      let both = both_taken (input_read files (bounds 0) (file_of binds n) n) (inputs_read files binds behind ns) rows is in
      let next = read_more behind ns both.more name new both.more_is taken in
      let all = both_more (input_read files (bounds 0) (file_of binds n) n) (inputs_read files binds behind (ns ++ name ∷ [])) both.one (both.more ++ new ∷ []) both.one_is next in
      all ∙ ap (λ (l : List (List Snapshot)). Ok (l ++ new ∷ [])) (sym both.all_is)

  -- the next input is rejected
  pub read_stops : (bounds : ℕ → Bounds) (names more : List (List ℕ)) (rows : List (List Snapshot)) (name : List ℕ) (why : Reason)
      → inputs_read files binds bounds names ≡ Ok rows → input_read files (bounds (length names)) (file_of binds name) name ≡ Err why
      → inputs_read files binds bounds (names ++ name ∷ more) ≡ Err why
  read_stops bounds [] more rows name why is refused = rw refused refl
  read_stops bounds (n ∷ ns) more rows name why is refused =
      let behind : ℕ → Bounds = λ place. bounds (suc place) in
      let both = both_taken (input_read files (bounds 0) (file_of binds n) n) (inputs_read files binds behind ns) rows is in
      rw (both.one_is, read_stops behind ns more both.more name why both.more_is refused) refl
