-- Whose turn it is, among the inputs of a query.
use Rattle.std.proofs.Common.{arith, ◌≡◌, ◌<◌, ◌≤◌, ◌+◌, List, [], ◌∷◌, ◌++◌, ℕ, length, get_or, take, drop, Ok, Err, None, sym, ap, ◌∙◌, subst}
use Rattle.std.proofs.lemmas.List.{drop_more, take-append-drop, take_more, take_all, length-take-le}
use Rattle.std.proofs.lemmas.List.Sums.{sum_by_push}
use Rattle.tilt_stream.specs.Snap.{Snapshot}
use Rattle.tilt_outside.proofs.Counts.{added-twice}
use Rattle.tilt_outside.proofs.Puts.{rose_from}
use Rattle.tilt_outside.specs.Counts.{added_count}
use Rattle.tilt_load.specs.Inputs.{bytes_of_inputs, faulty_name, file_of}
use Rattle.tilt_load.specs.Load.{IsLoadFault, HasSessionTurn}
use Rattle.tilt_load.specs.SeriesFiles.{input_read, inputs_read}
use Rattle.tilt_report.specs.Report.{Reason, Report}
use Rattle.tilt_series.specs.Series.{Bounds}
use Rattle.tilt_cli.specs.Binding.{Binding}
use Rattle.tilt_load.proofs.InputNames.{bound_file}
use Rattle.tilt_load.proofs.InputRows.{read_more, read_stops}
use Rattle.tilt_load.proofs.Loads.{load_fault_weaker}

-- a list, split at an item
parted : (xs : List (List ℕ)) (x : List ℕ) (i : ℕ) → i < length xs → x ≡ get_or xs i x → xs ≡ take i xs ++ x ∷ drop (i + 1) xs
parted xs x i low is =
    sym (take-append-drop i xs) ∙ ap (λ (d : List (List ℕ)). take i xs ++ d) (drop_more xs i x low ∙ ap (λ (y : List ℕ). y ∷ drop (i + 1) xs) (sym is))

-- the rows of the inputs before a place
abbrev pub AreRead : (List ℕ → List ℕ) → List Binding → (ℕ → Bounds) → List (List ℕ) → ℕ → Type 0
AreRead files binds bounds inputs i = (rows : List (List Snapshot)) × (inputs_read files binds bounds (take i inputs) ≡ Ok rows)

module _ (files : List ℕ → List ℕ) (binds : List Binding) (bounds : ℕ → Bounds) (inputs : List (List ℕ)) (name : List ℕ) (i : ℕ) (low : i < length inputs) (is : name ≡ get_or inputs i name) where
  -- this many inputs are before it
  before_it : length (take i inputs) ≡ i
  before_it = length-take-le i inputs (omega (arith, low))

  place_of_it : (here : Bounds) → here ≡ bounds i → here ≡ bounds (length (take i inputs))
  place_of_it here own = own ∙ ap bounds (sym before_it)

  -- it is the turn of the input at a place
  pub turn_at : (tells : Type 0) (file : List ℕ) → faulty_name inputs binds ≡ None → file ≡ file_of binds name → (tells → AreRead files binds bounds inputs i)
      → HasSessionTurn tells files binds bounds inputs file
  turn_at tells file names bound read = record {
    bind = record { name = name; file = file_of binds name };
    among = bound_file inputs binds name (take i inputs) (drop (i + 1) inputs) names (parted inputs name i low is);
    is = sym bound;
    next = λ t. record {
      before = take i inputs;
      after = drop (i + 1) inputs;
      place = parted inputs name i low is;
      names = names;
      rows = (read t).0;
      read = (read t).1;
    };
  }

  -- one more is taken
  pub taken_at : (here : Bounds) → here ≡ bounds i → (rows : List (List Snapshot)) (new : List Snapshot) → inputs_read files binds bounds (take i inputs) ≡ Ok rows
      → input_read files here (file_of binds name) name ≡ Ok new → inputs_read files binds bounds (take (i + 1) inputs) ≡ Ok (rows ++ new ∷ [])
  taken_at here own rows new read taken =
      let more = take_more inputs i name low ∙ ap (λ (x : List ℕ). take i inputs ++ x ∷ []) (sym is) in
      ap (inputs_read files binds bounds) more ∙ read_more files binds bounds (take i inputs) rows name new read
      (subst (λ (b : Bounds). input_read files b (file_of binds name) name ≡ Ok new) (place_of_it here own) taken)

  -- and its bytes are counted
  pub counted_at : (now : List ℕ → List ℕ) (file : List ℕ) (before mid after : ℕ) → now ≡ files → file ≡ file_of binds name
      → mid ≡ added_count before (bytes_of_inputs files binds (take i inputs)) → after ≡ added_count mid (length (now file))
      → after ≡ added_count before (bytes_of_inputs files binds (take (i + 1) inputs))
  counted_at now file before mid after same bound so_far rose =
      let more = take_more inputs i name low ∙ ap (λ (x : List ℕ). take i inputs ++ x ∷ []) (sym is) in
      let all = ap (bytes_of_inputs files binds) more ∙ sum_by_push (λ (x : List ℕ). length (files (file_of binds x))) (take i inputs) name in
      rose
      ∙ (λ j. added_count (so_far j) (length (same j (bound j))))
      ∙ added-twice before (bytes_of_inputs files binds (take i inputs)) (length (files (file_of binds name)))
      ∙ ap (added_count before) (sym all)

  -- it is rejected, and so are all
  pub refused_at : (here : Bounds) → here ≡ bounds i → (rows : List (List Snapshot)) (why : Reason) → inputs_read files binds bounds (take i inputs) ≡ Ok rows
      → input_read files here (file_of binds name) name ≡ Err why → inputs_read files binds bounds inputs ≡ Err why
  refused_at here own rows why read refused =
      ap (inputs_read files binds bounds) (parted inputs name i low is)
      ∙ read_stops files binds bounds (take i inputs) (drop (i + 1) inputs) rows name why read
      (subst (λ (b : Bounds). input_read files b (file_of binds name) name ≡ Err why) (place_of_it here own) refused)

  -- why the inputs aren't taken, if the one at the place isn't
  pub fault_at : (here : Bounds) → here ≡ bounds i → (tells : Type 0) (now : List ℕ → List ℕ) (file : List ℕ) (before mid after : ℕ) → faulty_name inputs binds
      ≡ None → file ≡ file_of binds name → (tells → AreRead files binds bounds inputs i) → now ≡ files → before ≤ mid → (report : Report)
      → IsLoadFault tells (λ r. input_read now here file name ≡ Err r) (λ which. which ≡ file) mid after report
      → IsLoadFault tells (λ r. inputs_read files binds bounds inputs ≡ Err r) (HasSessionTurn tells files binds bounds inputs) before after report
  fault_at here own tells now file before mid after names bound read same kept report fault =
      load_fault_weaker tells tells (λ r. input_read now here file name ≡ Err r) (λ r. inputs_read files binds bounds inputs ≡ Err r) (λ which. which ≡ file)
      (HasSessionTurn tells files binds bounds inputs) mid after before after (λ t. t)
      (λ r t refused. refused_at here own (read t).0 r (read t).1 (rw (same, bound) at refused))
      (λ which rose at. (rose_from before mid after kept rose, rw at (turn_at tells file names bound read))) report fault

-- all were taken
pub all_taken : (files : List ℕ → List ℕ) (binds : List Binding) (bounds : ℕ → Bounds) (inputs : List (List ℕ)) (rows : List (List Snapshot)) (i : ℕ)
    → length inputs ≤ i → inputs_read files binds bounds (take i inputs) ≡ Ok rows → inputs_read files binds bounds inputs ≡ Ok rows
all_taken files binds bounds inputs rows i high read = rw (take_all i inputs high) at read

-- and all bytes are counted
pub all_counted : (files : List ℕ → List ℕ) (binds : List Binding) (inputs : List (List ℕ)) (before after i : ℕ) → length inputs ≤ i
    → after ≡ added_count before (bytes_of_inputs files binds (take i inputs)) → after ≡ added_count before (bytes_of_inputs files binds inputs)
all_counted files binds inputs before after i high is = rw (take_all i inputs high) at is
