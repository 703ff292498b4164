-- The feed of an input shows the rows of readings: what each update that is handed on keeps of that.
use Rattle.std.proofs.Common.{◌≡◌, ◌<◌, ℕ, ℤ, pos, ◌+ℤ◌, ◌≤ℤ◌, ◌<ℤ◌, neg_ℤ, Bool, true, false, if◌then◌else◌, int_lt, List, [], ◌∷◌, ◌++◌, Option, Some, None}
use Rattle.std.specs.Prelude.{⊤, is_some}
use Rattle.std.specs.Option.{ForSome}
use Rattle.std.proofs.Common.{refl, sym, ap, subst, ◌∙◌, append_assoc, append-nil, arith}
use Rattle.std.proofs.lemmas.Int.{ints, clamps}
use Rattle.std.specs.Int.{int_min, int_max}
use Rattle.tilt_base.specs.declared.limits.TheConstants.{T}
use Rattle.tilt_conventions.proofs.Listing.{rows-more}
use Rattle.tilt_conventions.specs.Laws.{HoldsATick}
use Rattle.tilt_conventions.specs.Rows.{age_of, end_by_age, row_on, rows_of, start_of}
use Rattle.tilt_conventions.specs.Steps.{aged, aged_at_last, handed, known, moved, moved_all, rising, said}
use Rattle.tilt_conventions.specs.declared.options.Convention.{Convention}
use Rattle.tilt_conventions.specs.declared.options.Convention.TheVariants.{Hold, Event}
use Rattle.tilt_conventions.specs.declared.turn.Reading.{Reading}
use Rattle.tilt_feed.specs.Events.{closed_by, comes_at, continues, has_ticks, in_range, is_time, update_fault, updated}
use Rattle.tilt_feed.specs.Feed.{InputFeed, closed_at, rows_now}
use Rattle.tilt_feed.specs.declared.edge.Edge.{Edge}
use Rattle.tilt_feed.specs.declared.open_row.OpenRow.{OpenRow}
use Rattle.tilt_feed.specs.declared.update.Update.{Update}
use Rattle.tilt_feed.specs.declared.update.Update.TheVariants.{Row, Value, NoValue, KnownUpTo}
use Rattle.tilt_stream.specs.Snap.{Snapshot}

-- updates that are allowed one after another
abbrev pub Allowed : Edge → List Update → Type 0
Allowed edge [] = ⊤
Allowed edge (update ∷ updates) = (update_fault false edge update ≡ None) × Allowed (moved update edge) updates

pub allowed-append : (edge : Edge) (first second : List Update) → Allowed edge first → Allowed (moved_all first edge) second → Allowed edge (first ++ second)
allowed-append edge [] second one two = two
allowed-append edge (update ∷ first) second one two = (one.0, allowed-append (moved update edge) first second one.1 two)

-- an input after them
abbrev pub updated_all : List Update → InputFeed → InputFeed
updated_all [] input = input
updated_all (update ∷ updates) input = updated_all updates (updated update input)

pub updated-append : (first second : List Update) (input : InputFeed) → updated_all (first ++ second) input ≡ updated_all second (updated_all first input)
updated-append [] second input = refl
updated-append (update ∷ first) second input = updated-append first second (updated update input)

pub updated-edge : (updates : List Update) (input : InputFeed) → (updated_all updates input).edge ≡ moved_all updates input.edge
updated-edge [] input = refl
updated-edge (update ∷ updates) input = updated-edge updates (updated update input)

-- an open row isn't older than the age at a tick
abbrev pub IsYoung : Option ℕ → ℤ → Option OpenRow → Type 0
IsYoung None tick row = ⊤
IsYoung (Some age) tick None = ⊤
IsYoung (Some age) tick (Some row) = tick ≤ℤ (row.start +ℤ pos age)

-- an event is never an open row
abbrev pub IsOpenBy : Convention → Option OpenRow → Type 0
IsOpenBy (Hold max_age) row = ⊤
IsOpenBy Event row = row ≡ None

-- the open row as a list, ended by its age before a tick
abbrev pub open_until : Option ℕ → ℤ → Option OpenRow → List Snapshot
open_until age cut None = []
open_until age cut (Some row) = record { start = row.start; end = end_by_age age row.start cut; value = Some row.value } ∷ []

-- an input with its closed rows, its open row and its watermark
abbrev pub input_of : List Snapshot → Option OpenRow → ℤ → InputFeed
input_of rows row watermark = record { rows = rows; edge = record { open_row = row; watermark = watermark } }

-- the closed rows of an input, and the open one until a cut, are those of readings; the open row isn't older than the age
pub record Shows (convention : Convention) (age : Option ℕ) (readings : List Reading) (input : InputFeed) : Type 0 where
  pub low : neg_ℤ T ≤ℤ input.edge.watermark
  pub high : input.edge.watermark ≤ℤ T
  pub young : IsYoung age input.edge.watermark input.edge.open_row
  pub kind : IsOpenBy convention input.edge.open_row
  pub rows : (cut : ℤ) → input.edge.watermark ≤ℤ cut → input.rows ++ open_until age cut input.edge.open_row ≡ rows_of age readings cut

-- updates are allowed, and an input shows readings after them
pub record Does (convention : Convention) (age : Option ℕ) (readings : List Reading) (updates : List Update) (input : InputFeed) : Type 0 where
  pub allowed : Allowed input.edge updates
  pub shows : Shows convention age readings (updated_all updates input)

pub does-more : (convention : Convention) (age : Option ℕ) (some all : List Reading) (first second : List Update) (input : InputFeed) → Does convention age some first input
    → Does convention age all second (updated_all first input) → Does convention age all (first ++ second) input
does-more convention age some all first second input one two = record {
  allowed = allowed-append input.edge first second one.allowed (subst (λ (e : Edge). Allowed e second) (updated-edge first input) two.allowed);
  shows = subst (λ (i : InputFeed). Shows convention age all i) (sym (updated-append first second input)) two.shows;
}

no-fault : (edge : Edge) (update : Update) → in_range update ≡ true → int_lt (comes_at edge update) edge.watermark ≡ false → has_ticks update ≡ true
    → update_fault false edge update ≡ None
no-fault edge update one two three = rw (one, two, three) refl

in-time : (tick : ℤ) → neg_ℤ T ≤ℤ tick → tick ≤ℤ T → is_time tick ≡ true
in-time tick low high = grind (arith, ints)

-- the open row ends by its age before a tick
pub record Ages (convention : Convention) (age : Option ℕ) (readings : List Reading) (tick : ℤ) (updates : List Update) (input : InputFeed) : Type 0 where
  pub does : Does convention age readings updates input
  pub low : input.edge.watermark ≤ℤ (updated_all updates input).edge.watermark
  pub high : (updated_all updates input).edge.watermark ≤ℤ int_max input.edge.watermark tick
  pub young : IsYoung age tick (updated_all updates input).edge.open_row

rests : (convention : Convention) (age : Option ℕ) (readings : List Reading) (tick : ℤ) (input : InputFeed) → Shows convention age readings input
    → IsYoung age tick input.edge.open_row → Ages convention age readings tick [] input
rests convention age readings tick input shows young = record {
  does = record { allowed = tt; shows = shows };
  low = omega (arith, ints);
  high = omega (arith, ints, clamps);
  young = young;
}

kind-none : (convention : Convention) → IsOpenBy convention None
kind-none (Hold max_age) = tt
kind-none Event = refl

end-over : (cut end : ℤ) → end ≤ℤ cut → int_min cut end ≡ end
end-over cut end over = grind (arith, ints, clamps)

ages-by : (b : Bool) (convention : Convention) (age : ℕ) (readings : List Reading) (tick : ℤ) (rows : List Snapshot) (row : OpenRow) (watermark : ℤ)
    → Shows convention (Some age) readings (input_of rows (Some row) watermark) → tick ≤ℤ T → int_lt (row.start +ℤ pos age) tick ≡ b
    → Ages convention (Some age) readings tick (if b then NoValue (row.start +ℤ pos age) ∷ [] else []) (input_of rows (Some row) watermark)
ages-by false convention age readings tick rows row watermark shows high is =
    rests convention (Some age) readings tick (input_of rows (Some row) watermark) shows (grind (arith, ints))
ages-by true convention age readings tick rows row watermark shows high is =
    let end = row.start +ℤ pos age in
    let low = shows.low in
    let young : watermark ≤ℤ end = shows.young in
    let before : end <ℤ tick = grind (arith, ints) in
    let time : is_time end ≡ true = in-time end (omega (arith, ints)) (omega (arith, ints)) in
    let late : int_lt end watermark ≡ false = grind (arith, ints) in
    let next : int_min (end +ℤ pos 1) T ≡ end +ℤ pos 1 = grind (arith, ints, clamps) in
    record {
      does = record {
        allowed = (no-fault (record { open_row = Some row; watermark = watermark }) (NoValue end) time late refl, tt);
        shows = record {
          low = omega (arith, ints, next);
          high = omega (arith, ints, next);
          young = tt;
          kind = kind-none convention;
          rows = λ cut over.
              let past : end ≤ℤ cut = omega (arith, ints, next, over) in
              append-nil (rows ++ record { start = row.start; end = end; value = Some row.value } ∷ [])
              ∙ ap (λ (e : ℤ). rows ++ record { start = row.start; end = e; value = Some row.value } ∷ []) (sym (end-over cut end past))
              ∙ shows.rows cut (omega (arith, ints));
        };
      };
      low = omega (arith, ints, next);
      high = omega (arith, ints, clamps, next);
      young = tt;
    }

ages-row : (convention : Convention) (age : Option ℕ) (readings : List Reading) (tick : ℤ) (rows : List Snapshot) (row : Option OpenRow) (watermark : ℤ)
    → Shows convention age readings (input_of rows row watermark) → tick ≤ℤ T → Ages convention age readings tick (aged age tick row) (input_of rows row watermark)
ages-row convention None readings tick rows row watermark shows high = rests convention None readings tick (input_of rows row watermark) shows tt
ages-row convention (Some age) readings tick rows None watermark shows high = rests convention (Some age) readings tick (input_of rows None watermark) shows tt
ages-row convention (Some age) readings tick rows (Some row) watermark shows high =
    ages-by (int_lt (row.start +ℤ pos age) tick) convention age readings tick rows row watermark shows high refl

pub ages : (convention : Convention) (age : Option ℕ) (readings : List Reading) (tick : ℤ) (input : InputFeed) → Shows convention age readings input → tick ≤ℤ T
    → Ages convention age readings tick (aged age tick input.edge.open_row) input
ages convention age readings tick input shows high = ages-row convention age readings tick input.rows input.edge.open_row input.edge.watermark shows high

-- "known up to" a tick
rises-by : (b : Bool) (convention : Convention) (age : Option ℕ) (readings : List Reading) (tick : ℤ) (input : InputFeed) → Shows convention age readings input
    → IsYoung age tick input.edge.open_row → tick ≤ℤ T → int_lt input.edge.watermark tick ≡ b
    → Does convention age readings (if b then KnownUpTo tick ∷ [] else []) input × ((updated_all (if b then KnownUpTo tick ∷ [] else []) input).edge.watermark ≡ int_max input.edge.watermark tick)
rises-by false convention age readings tick input shows young high is = (record { allowed = tt; shows = shows }, grind (arith, ints, clamps))
rises-by true convention age readings tick input shows young high is =
    let low = shows.low in
    let below : input.edge.watermark <ℤ tick = grind (arith, ints) in
    let time : is_time tick ≡ true = in-time tick (omega (arith, ints)) high in
    let late : int_lt tick input.edge.watermark ≡ false = grind (arith, ints) in (
      record {
        allowed = (no-fault input.edge (KnownUpTo tick) time late refl, tt);
        shows = record {
          low = omega (arith, ints);
          high = high;
          young = young;
          kind = shows.kind;
          rows = λ cut over. ap (λ (rows : List Snapshot). rows ++ open_until age cut input.edge.open_row) (append-nil input.rows) ∙ shows.rows cut (omega (arith, ints));
        };
      },
      grind (arith, ints, clamps),
    )

-- an input becomes known up to a tick
pub record Knows (convention : Convention) (age : Option ℕ) (readings : List Reading) (tick : ℤ) (updates : List Update) (input : InputFeed) : Type 0 where
  pub does : Does convention age readings updates input
  pub at : (updated_all updates input).edge.watermark ≡ int_max input.edge.watermark tick

knows-after : (convention : Convention) (age : Option ℕ) (readings : List Reading) (tick : ℤ) (first : List Update) (input : InputFeed) → Ages convention age readings tick first input
    → tick ≤ℤ T → Knows convention age readings tick (first ++ rising tick (moved_all first input.edge).watermark) input
knows-after convention age readings tick first input aged high =
    let now = updated_all first input in
    let same : (moved_all first input.edge).watermark ≡ now.edge.watermark = ap (λ (e : Edge). e.watermark) (sym (updated-edge first input)) in
    let rises = rises-by (int_lt now.edge.watermark tick) convention age readings tick now aged.does.shows aged.young high refl in
    let over : int_max now.edge.watermark tick ≡ int_max input.edge.watermark tick = omega (arith, ints, clamps, aged.high, aged.low) in
    let second = rising tick now.edge.watermark in
    let all : Knows convention age readings tick (first ++ second) input = record {
      does = does-more convention age readings readings first second input aged.does rises.0;
      at = ap (λ (i : InputFeed). i.edge.watermark) (updated-append first second input) ∙ rises.1 ∙ over;
    } in
    subst (λ (w : ℤ). Knows convention age readings tick (first ++ rising tick w) input) (sym same) all

pub knows : (convention : Convention) (age : Option ℕ) (readings : List Reading) (tick : ℤ) (input : InputFeed) → Shows convention age readings input → tick ≤ℤ T
    → Knows convention age readings tick (known age tick input.edge) input
knows convention age readings tick input shows high =
    knows-after convention age readings tick (aged age tick input.edge.open_row) input (ages convention age readings tick input shows high) high

-- what a reading says
until-young : (age : Option ℕ) (tick : ℤ) (row : Option OpenRow) → IsYoung age tick row → open_until age tick row ≡ closed_at tick row
until-young None tick None young = refl
until-young None tick (Some row) young = refl
until-young (Some age) tick None young = refl
until-young (Some age) tick (Some row) young =
    let same : int_min tick (row.start +ℤ pos age) ≡ tick = grind (arith, ints, clamps) in
    ap (λ (e : ℤ). let s : Snapshot = record { start = row.start; end = e; value = Some row.value } in s ∷ []) same

-- a row that has ticks
row-there : (start end value : ℤ) → start <ℤ end → row_on start end (Some value) ≡ record { start = start; end = end; value = Some value } ∷ []
row-there start end value some =
    let is : int_lt start end ≡ true = grind (arith, ints) in
    rw is refl

some-ticks : (age : Option ℕ) (start cut : ℤ) → ForSome age (λ n. 0 < n) → start <ℤ cut → start <ℤ end_by_age age start cut
some-ticks None start cut holds over = over
some-ticks (Some age) start cut holds over =
    let more = holds age refl in
    grind (arith, ints, clamps)

young-none : (age : Option ℕ) (tick : ℤ) → IsYoung age tick None
young-none None tick = tt
young-none (Some age) tick = tt

young-next : (age : Option ℕ) (start value : ℤ) → ForSome age (λ n. 0 < n) → IsYoung age (start +ℤ pos 1) (Some (record { start = start; value = value }))
young-next None start value holds = tt
young-next (Some age) start value holds =
    let more = holds age refl in
    omega (arith, ints, more)

-- an input shows readings and one more: the open row ends where it starts, and its own row begins
pub record Says (convention : Convention) (age : Option ℕ) (readings : List Reading) (start : ℤ) (updates : List Update) (input : InputFeed) : Type 0 where
  pub does : Does convention age readings updates input
  pub at : (updated_all updates input).edge.watermark ≡ start +ℤ pos 1

module _ (convention : Convention) (age : Option ℕ) (readings : List Reading) (reading : Reading) (input : InputFeed) (shows : Shows convention age readings input)
    (on : input.edge.watermark ≤ℤ start_of reading) (high : start_of reading <ℤ T) (young : IsYoung age (start_of reading) input.edge.open_row) (holds : ForSome age (λ n. 0 < n)) where
  low-start : neg_ℤ T ≤ℤ start_of reading
  low-start =
      let low = shows.low in
      omega (arith, ints)

  start-time : is_time (start_of reading) ≡ true
  start-time = in-time (start_of reading) low-start (omega (arith, ints))

  not-late : int_lt (start_of reading) input.edge.watermark ≡ false
  not-late = grind (arith, ints)

  rows-before : input.rows ++ closed_at (start_of reading) input.edge.open_row ≡ rows_of age readings (start_of reading)
  rows-before =
      ap (λ (rows : List Snapshot). input.rows ++ rows) (sym (until-young age (start_of reading) input.edge.open_row young))
      ∙ shows.rows (start_of reading) on

  rows-then : (cut : ℤ) (value : Option ℤ) (last : List Snapshot) → reading.value ≡ value → last ≡ row_on (start_of reading) (end_by_age age (start_of reading) cut) value
      → (input.rows ++ closed_at (start_of reading) input.edge.open_row) ++ last ≡ rows_of age (readings ++ reading ∷ []) cut
  rows-then cut value last is same =
      ap (λ (rows : List Snapshot). rows ++ last) rows-before
      ∙ ap (λ (rows : List Snapshot). rows_of age readings (start_of reading) ++ rows) same
      ∙ ap (λ (v : Option ℤ). rows_of age readings (start_of reading) ++ row_on (start_of reading) (end_by_age age (start_of reading) cut) v) (sym is)
      ∙ sym (rows-more age readings reading cut)

  -- it has no value
  says-nothing : reading.value ≡ None → Says convention age (readings ++ reading ∷ []) (start_of reading) (NoValue (start_of reading) ∷ []) input
  says-nothing is =
      let start = start_of reading in
      let low = low-start in
      let next : int_min (start +ℤ pos 1) T ≡ start +ℤ pos 1 = grind (arith, ints, clamps) in
      record {
        does = record {
          allowed = (no-fault input.edge (NoValue start) start-time not-late refl, tt);
          shows = record {
            low = omega (arith, ints, next);
            high = omega (arith, ints, next);
            young = young-none age (int_min (start +ℤ pos 1) T);
            kind = kind-none convention;
            rows = λ cut over. rows-then cut None [] is refl;
          };
        };
        at = next;
      }

  -- its value holds
  says-value : (value : ℤ) → reading.value ≡ Some value → IsOpenBy convention (Some (record { start = start_of reading; value = value }))
      → Says convention age (readings ++ reading ∷ []) (start_of reading) (Value (start_of reading) value ∷ []) input
  says-value value is kind =
      let start = start_of reading in
      let low = low-start in
      let room : int_lt start T ≡ true = grind (arith, ints) in
      record {
        does = record {
          allowed = (no-fault input.edge (Value start value) start-time not-late room, tt);
          shows = record {
            low = omega (arith, ints);
            high = omega (arith, ints);
            young = young-next age start value holds;
            kind = kind;
            rows = λ cut over. rows-then cut (Some value) (record { start = start; end = end_by_age age start cut; value = Some value } ∷ []) is
                (sym (row-there start (end_by_age age start cut) value (some-ticks age start cut holds (omega (arith, ints)))));
          };
        };
        at = refl;
      }

-- an event has its own tick
not-open : (row : Option OpenRow) (start : ℤ) (value : Option ℤ) → row ≡ None → continues row start value ≡ false
not-open None start value is = refl
not-open (Some row) start value is = absurd (cc is)

by-none : (b : Bool) (first second : List Snapshot) → b ≡ false → (if b then first else second) ≡ second
by-none true first second is = absurd (cc is)
by-none false first second is = refl

end-next : (start cut : ℤ) → (start +ℤ pos 1) ≤ℤ cut → end_by_age (Some 1) start cut ≡ start +ℤ pos 1
end-next start cut over = grind (arith, ints, clamps)

comes-first : (b : Bool) (start end : ℤ) → b ≡ false → (if b then end else start) ≡ start
comes-first true start end is = absurd (cc is)
comes-first false start end is = refl

module _ (readings : List Reading) (reading : Reading) (input : InputFeed) (shows : Shows Event (Some 1) readings input)
    (on : input.edge.watermark ≤ℤ start_of reading) (high : start_of reading <ℤ T) (young : IsYoung (Some 1) (start_of reading) input.edge.open_row) where
  holds-one : ForSome (Some 1) (λ n. 0 < n)
  holds-one n is = grind arith

  says-event : (value : ℤ) → reading.value ≡ Some value
      → Says Event (Some 1) (readings ++ reading ∷ []) (start_of reading) (Row (start_of reading) (start_of reading +ℤ pos 1) (Some value) ∷ []) input
  says-event value is =
      let start = start_of reading in
      let end = start +ℤ pos 1 in
      let low = low-start Event (Some 1) readings reading input shows on high young holds-one in
      let time = start-time Event (Some 1) readings reading input shows on high young holds-one in
      let late = not-late Event (Some 1) readings reading input shows on high young holds-one in
      let end_time : is_time end ≡ true = in-time end (omega (arith, ints)) (omega (arith, ints)) in
      let both : in_range (Row start end (Some value)) ≡ true = rw (time, end_time) refl in
      let none = not-open input.edge.open_row start (Some value) shows.kind in
      let first : int_lt (comes_at input.edge (Row start end (Some value))) input.edge.watermark ≡ false =
      ap (λ (t : ℤ). int_lt t input.edge.watermark) (comes-first (continues input.edge.open_row start (Some value)) start end none) ∙ late in
      let some : int_lt start end ≡ true = grind (arith, ints) in
      let row : Snapshot = record { start = start; end = end; value = Some value } in
      let closes : closed_by input.edge (Row start end (Some value)) ≡ closed_at start input.edge.open_row ++ row ∷ [] =
      by-none (continues input.edge.open_row start (Some value)) (closed_at end input.edge.open_row) (closed_at start input.edge.open_row ++ row ∷ []) none in
      record {
        does = record {
          allowed = (no-fault input.edge (Row start end (Some value)) both first some, tt);
          shows = record {
            low = omega (arith, ints);
            high = omega (arith, ints);
            young = tt;
            kind = refl;
            rows = λ cut over.
                append-nil (input.rows ++ closed_by input.edge (Row start end (Some value)))
                ∙ ap (λ (rows : List Snapshot). input.rows ++ rows) closes
                ∙ sym (append_assoc input.rows (closed_at start input.edge.open_row) (row ∷ []))
                ∙ rows-then Event (Some 1) readings reading input shows on high young holds-one cut (Some value) (row ∷ []) is
                (sym (row-there start end value (omega (arith, ints))) ∙ ap (λ (e : ℤ). row_on start e (Some value)) (sym (end-next start cut over)));
          };
        };
        at = refl;
      }

-- a reading is handed on
says-by : (convention : Convention) (readings : List Reading) (reading : Reading) (value : Option ℤ) (input : InputFeed) → Shows convention (age_of convention) readings input
    → input.edge.watermark ≤ℤ start_of reading → start_of reading <ℤ T → IsYoung (age_of convention) (start_of reading) input.edge.open_row → HoldsATick convention → reading.value ≡ value
    → Says convention (age_of convention) (readings ++ reading ∷ []) (start_of reading) (said convention (start_of reading) value ∷ []) input
says-by convention readings reading None input shows on high young holds is =
    says-nothing convention (age_of convention) readings reading input shows on high young holds is
says-by (Hold max_age) readings reading (Some value) input shows on high young holds is =
    says-value (Hold max_age) max_age readings reading input shows on high young holds value is tt
says-by Event readings reading (Some value) input shows on high young holds is = says-event readings reading input shows on high young value is

pub hands : (convention : Convention) (readings : List Reading) (reading : Reading) (input : InputFeed) → Shows convention (age_of convention) readings input
    → input.edge.watermark ≤ℤ start_of reading → start_of reading <ℤ T → HoldsATick convention
    → Says convention (age_of convention) (readings ++ reading ∷ []) (start_of reading) (handed convention reading input.edge) input
hands convention readings reading input shows on high holds =
    let age = age_of convention in
    let first = aged age (start_of reading) input.edge.open_row in
    let second = said convention (start_of reading) reading.value ∷ [] in
    let old = ages convention age readings (start_of reading) input shows (omega (arith, ints)) in
    let now_on : (updated_all first input).edge.watermark ≤ℤ start_of reading = omega (arith, ints, clamps, old.high, on) in
    let says = says-by convention readings reading reading.value (updated_all first input) old.does.shows now_on high old.young holds refl in
    record {
      does = does-more convention age readings (readings ++ reading ∷ []) first second input old.does says.does;
      at = ap (λ (i : InputFeed). i.edge.watermark) (updated-append first second input) ∙ says.at;
    }

-- what holds ends by its age when nothing more comes
pub record Ends (age : Option ℕ) (readings : List Reading) (updates : List Update) (input : InputFeed) : Type 0 where
  pub allowed : Allowed input.edge updates
  pub rows : rows_now (updated_all updates input) ≡ rows_of age readings (if is_some age then T else input.edge.watermark)

now-none : (rows : List Snapshot) (watermark : ℤ) (row : Option OpenRow) → row ≡ None → rows ++ closed_at watermark row ≡ rows ++ []
now-none rows watermark row is = ap (λ (r : Option OpenRow). rows ++ closed_at watermark r) is

ends-row : (convention : Convention) (age : Option ℕ) (readings : List Reading) (rows : List Snapshot) (row : Option OpenRow) (watermark : ℤ)
    → Shows convention age readings (input_of rows row watermark) → Ends age readings (aged_at_last age row) (input_of rows row watermark)
ends-row convention None readings rows row watermark shows = record {
  allowed = tt;
  rows = ap (λ (r : List Snapshot). rows ++ r) (sym (until-young None watermark row tt)) ∙ shows.rows watermark (omega (arith, ints));
}
ends-row convention (Some age) readings rows None watermark shows = record { allowed = tt; rows = shows.rows T shows.high }
ends-row convention (Some age) readings rows (Some row) watermark shows =
    let low = shows.low in
    let high = shows.high in
    let young : watermark ≤ℤ (row.start +ℤ pos age) = shows.young in
    let end = int_min T (row.start +ℤ pos age) in
    let under : watermark ≤ℤ end = grind (arith, ints, clamps) in
    let over : end ≤ℤ T = grind (arith, ints, clamps) in
    let time : is_time end ≡ true = in-time end (omega (arith, ints)) over in
    let late : int_lt end watermark ≡ false = grind (arith, ints) in
    record {
      allowed = (no-fault (record { open_row = Some row; watermark = watermark }) (NoValue end) time late refl, tt);
      rows = append-nil (rows ++ record { start = row.start; end = end; value = Some row.value } ∷ []) ∙ shows.rows T high;
    }

pub ends : (convention : Convention) (age : Option ℕ) (readings : List Reading) (input : InputFeed) → Shows convention age readings input
    → Ends age readings (aged_at_last age input.edge.open_row) input
ends convention age readings input shows = ends-row convention age readings input.rows input.edge.open_row input.edge.watermark shows

-- the rows now
pub now : (convention : Convention) (age : Option ℕ) (readings : List Reading) (input : InputFeed) → Shows convention age readings input
    → rows_now input ≡ rows_of age readings input.edge.watermark
now convention age readings input shows =
    ap (λ (r : List Snapshot). input.rows ++ r) (sym (until-young age input.edge.watermark input.edge.open_row shows.young)) ∙ shows.rows input.edge.watermark (omega (arith, ints))

-- the same after other updates
pub record Closes (age : Option ℕ) (readings : List Reading) (cut : ℤ) (updates : List Update) (input : InputFeed) : Type 0 where
  pub allowed : Allowed input.edge updates
  pub rows : rows_now (updated_all updates input) ≡ rows_of age readings (if is_some age then T else cut)

pub closes : (convention : Convention) (age : Option ℕ) (readings : List Reading) (cut : ℤ) (first : List Update) (input : InputFeed) → Does convention age readings first input
    → (updated_all first input).edge.watermark ≡ cut → Closes age readings cut (first ++ aged_at_last age (moved_all first input.edge).open_row) input
closes convention age readings cut first input does at =
    let later = updated_all first input in
    let last = ends convention age readings later does.shows in
    let second = aged_at_last age later.edge.open_row in
    let all : Closes age readings cut (first ++ second) input = record {
      allowed = allowed-append input.edge first second does.allowed (subst (λ (e : Edge). Allowed e second) (updated-edge first input) last.allowed);
      rows = ap (λ (i : InputFeed). rows_now i) (updated-append first second input) ∙ last.rows ∙ ap (λ (w : ℤ). rows_of age readings (if is_some age then T else w)) at;
    } in
    subst (λ (e : Edge). Closes age readings cut (first ++ aged_at_last age e.open_row) input) (updated-edge first input) all
