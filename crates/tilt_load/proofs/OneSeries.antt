-- The inputs of a file give their rows within bounds, or one reason why they have none.
use Rattle.std.proofs.Common.{◌≡◌, ◌∙◌, ◌⊎◌, List, ℕ, Option, None, Some, Result, Ok, Err, inl, inr, refl, sym}
use Rattle.tilt_load.specs.Inputs.{faulty_name}
use Rattle.tilt_load.specs.SeriesFiles.{TakesSession, RefusesSession, by_names, by_series, inputs_read}
use Rattle.tilt_report.specs.Report.{Reason, input_names}
use Rattle.tilt_series.specs.Series.{Bounds}
use Rattle.tilt_stream.specs.Snap.{Snapshot}
use Rattle.tilt_cli.specs.Binding.{Binding}

same_rows : {xs ys : List (List Snapshot)} → (let x : Result (List (List Snapshot)) Reason = Ok xs in x ≡ Ok ys) → xs ≡ ys
same_rows e = cc

same_reason : {r s : Reason} → (let x : Result (List (List Snapshot)) Reason = Err r in x ≡ Err s) → r ≡ s
same_reason e = cc

module _ (files : List ℕ → List ℕ) (binds : List Binding) {bounds : ℕ → Bounds} (inputs : List (List ℕ)) where
  -- inputs that are taken have one list of rows each
  pub inputs_once : (xs ys : List (List Snapshot)) → TakesSession files binds bounds inputs xs → TakesSession files binds bounds inputs ys → xs ≡ ys
  inputs_once xs ys taken taken' = same_rows (sym taken.read ∙ taken'.read)

  -- they are rejected for one reason
  pub inputs_refused_once : (r s : Reason) → RefusesSession files binds bounds inputs r → RefusesSession files binds bounds inputs s → r ≡ s
  inputs_refused_once r s (by_names n is) (by_names m is') =
      let same : n ≡ m = cc in
      rw same refl
  inputs_refused_once r s (by_names n is) (by_series why names is') = cc
  inputs_refused_once r s (by_series why names is) (by_names m is') = cc
  inputs_refused_once r s (by_series why names is) (by_series why' names' is') = same_reason (sym is ∙ is')

  -- they are taken, or rejected
  pub inputs_refused_or_taken : (r : Reason) (xs : List (List Snapshot)) → RefusesSession files binds bounds inputs r → TakesSession files binds bounds inputs xs → ⊥
  inputs_refused_or_taken r xs (by_names n is) taken = let names = taken.names in cc
  inputs_refused_or_taken r xs (by_series why names is) taken = let read = taken.read in cc

-- they are always one of the two
module _ (files : List ℕ → List ℕ) (binds : List Binding) (bounds : ℕ → Bounds) (inputs : List (List ℕ)) where
  abbrev AreEither : Type 0
  AreEither = ((rows : List (List Snapshot)) × TakesSession files binds bounds inputs rows) ⊎ ((r : Reason) × RefusesSession files binds bounds inputs r)

  by_result : faulty_name inputs binds ≡ None → (result : Result (List (List Snapshot)) Reason) → inputs_read files binds bounds inputs ≡ result → AreEither
  by_result names (Ok rows) is = inl (rows, record { names = names; read = is })
  by_result names (Err why) is = inr (why, by_series why names is)

  by_found : (found : Option (List ℕ)) → faulty_name inputs binds ≡ found → AreEither
  by_found None is = by_result is (inputs_read files binds bounds inputs) refl
  by_found (Some name) is = inr (input_names name, by_names name is)

  pub inputs_taken_or_refused : ((rows : List (List Snapshot)) × TakesSession files binds bounds inputs rows) ⊎ ((r : Reason) × RefusesSession files binds bounds inputs r)
  inputs_taken_or_refused = by_found (faulty_name inputs binds) refl
