-- How a checkpoint is read, piece by piece. What is read is said by `Spelling` and `Valid` alone.
use Rattle.std.specs.Prelude.{◌≡◌, ℕ, zero, suc, ◌==◌, ℤ, pos, negsuc, neg_ℤ, int_lt, int_le, Bool, true, false, not, ◌&&◌, ◌||◌}
use Rattle.std.specs.Prelude.{if◌then◌else◌, List, [], ◌∷◌, ◌++◌, Option, Some, None, Result, Ok, Err, MatchOption, codes, take, length}
use Rattle.std.specs.Prelude.{◌-◌}
use Rattle.std.specs.Ordering.{int_eq}
use Rattle.std.specs.List.{list_all, list_any}
use Rattle.std.specs.Str.{bytes_eq}
use Rattle.tilt_base.specs.declared.limits.TheConstants.{T}
use Rattle.tilt_stream.specs.Snap.{Snapshot, last_end}
use Rattle.tilt_text.specs.Cut.{until_at}
use Rattle.tilt_text.specs.Spelled.{shortest}
use Rattle.tilt_text.specs.Step.{◌>>=◌}
use Rattle.tilt_checkpoint.specs.Checkpoint.{KeptParts, BodyParts}
use Rattle.tilt_checkpoint.specs.Decided.{decided, first_kept}
use Rattle.tilt_checkpoint.specs.declared.fault.CheckpointFault.{CheckpointFault}
use Rattle.tilt_checkpoint.specs.declared.fault.CheckpointFault.TheVariants.{BadCheckpoint, OutOfMemory}
use Rattle.tilt_checkpoint.specs.declared.form.Form.{Form}
use Rattle.tilt_checkpoint.specs.declared.frame.Frame.{Frame}
use Rattle.tilt_checkpoint.specs.declared.version.Version.{Version}
use Rattle.tilt_checkpoint.specs.declared.version.Version.TheVariants.{First, Second}

-- a step, repeated this number of times
abbrev pub times : {A : Type 0} → (A → Option A) → ℕ → A → Option A
times step zero x = Some x
times step (suc more) x = step x >>= times step more

-- what was read, and the bytes after it
abbrev pub Read : Type 0 → Type 0
Read A = Option (A × List ℕ)

-- the bytes after a text with which they begin
abbrev pub behind : List ℕ → List ℕ → Option (List ℕ)
behind [] bytes = Some bytes
behind (c ∷ text) [] = None
behind (c ∷ text) (b ∷ bytes) = if b == c then behind text bytes else None

-- the bytes after a line
abbrev pub behind_line : List ℕ → Option (List ℕ)
behind_line bytes = until_at 10 bytes >>= λ line. Some line.1

-- the number up to the mark
abbrev pub number_at : ℕ → List ℕ → Read ℤ
number_at mark bytes = do
  word ← until_at mark bytes
  number ← shortest word.0
  Some (number, word.1)

-- a number without a sign
abbrev pub natural : ℤ → Option ℕ
natural (pos n) = Some n
natural (negsuc n) = None

-- the count up to the mark
abbrev pub count_at : ℕ → List ℕ → Read ℕ
count_at mark bytes = do
  number ← number_at mark bytes
  count ← natural number.0
  Some (count, number.1)

-- nothing if the word is the one for nothing, or the number whose shortest decimal it is
abbrev pub maybe : List ℕ → List ℕ → Option (Option ℤ)
maybe nothing word = if bytes_eq word nothing then Some None else (shortest word >>= λ number. Some (Some number))

-- the same of the word up to the mark
abbrev pub maybe_at : List ℕ → ℕ → List ℕ → Read (Option ℤ)
maybe_at nothing mark bytes = do
  word ← until_at mark bytes
  number ← maybe nothing word.0
  Some (number, word.1)

-- the version that a word names
abbrev pub version_of : List ℕ → Option Version
version_of word = if bytes_eq word (codes "1") then Some First else if bytes_eq word (codes "2") then Some Second else None

-- the version that the first line names
abbrev pub version_at : List ℕ → Read Version
version_at bytes = do
  rest ← behind (codes "tilt checkpoint ") bytes
  word ← until_at 10 rest
  version ← version_of word.0
  Some (version, word.1)

-- the number of the query's statements
abbrev pub statements_at : List ℕ → Read ℕ
statements_at bytes = behind (codes "query ") bytes >>= count_at 10

-- the bytes before those that are left
abbrev pub front_of : List ℕ → List ℕ → List ℕ
front_of left bytes = take (length bytes - length left) bytes

-- the number of the query's statements, and as many lines
abbrev pub query_at : List ℕ → Read (ℕ × List ℕ)
query_at bytes = do
  count ← statements_at bytes
  left ← times behind_line count.0 count.1
  Some ((count.0, front_of left count.1), left)

-- a row
abbrev pub row_at : List ℕ → Read Snapshot
row_at bytes = do
  start ← number_at 44 bytes
  end ← number_at 44 start.1
  value ← maybe_at [] 10 end.1
  if int_lt start.0 end.0 then Some (record { start = start.0; end = end.0; value = value.0 }, value.1) else None

-- whether a row may start there after the last one, if there is one
abbrev pub follows : Option ℤ → ℤ → Bool
follows None start = true
follows (Some end) start = int_le end start

-- whether a row may be kept after those, of an input with that cut
abbrev pub may_follow : ℤ → ℤ → List Snapshot → Snapshot → Bool
may_follow first cut rows row =
    int_le (neg_ℤ T) row.start && follows (last_end rows) row.start && int_le row.end T && int_le first row.end && int_lt row.start cut

-- one row more
abbrev pub with_row : ℤ → ℤ → List Snapshot × List ℕ → Read (List Snapshot)
with_row first cut so_far = do
  row ← row_at so_far.1
  if may_follow first cut so_far.0 row.0 then Some (so_far.0 ++ row.0 ∷ [], row.1) else None

-- the cut of an input: its own, or in the first version the least, which is the cut of all
abbrev pub own_cut_at : Version → ℤ → List ℕ → Read ℤ
own_cut_at First least bytes = Some (least, bytes)
own_cut_at Second least bytes = behind (codes "cut ") bytes >>= number_at 32

-- the last end and the number of rows
abbrev pub series_head : List ℕ → Read (Option ℤ × ℕ)
series_head bytes = do
  word ← behind (codes "last ") bytes
  last ← maybe_at (codes "none") 32 word
  rows ← behind (codes "rows ") last.1
  count ← count_at 10 rows
  Some ((last.0, count.0), count.1)

-- whether this is the last end of a series, of which the last row that is kept ends there
abbrev pub is_last_end : ℤ → ℤ → Option ℤ → Option ℤ → Bool
is_last_end first cut (Some end) None = false
is_last_end first cut (Some end) (Some last) = int_eq last end
is_last_end first cut None None = true
is_last_end first cut None (Some last) = int_lt (neg_ℤ T) last && int_le last T && int_lt last first && int_lt (neg_ℤ T) cut

-- what is kept of an input, of which the first line and the rows are given
abbrev pub kept_with : ℤ → ℤ → Option ℤ → List Snapshot × List ℕ → Read KeptParts
kept_with first cut last rows =
    if is_last_end first cut (last_end rows.0) last then Some (record { cut = cut; last_end = last; rows = rows.0 }, rows.1) else None

-- what is kept of an input with that cut
abbrev pub kept_upto : ℤ → ℤ → List ℕ → Read KeptParts
kept_upto first cut bytes = do
  head ← series_head bytes
  rows ← times (with_row first cut) head.0.1 ([], head.1)
  kept_with first cut head.0.0 rows

-- whether a cut lies within the range of times
abbrev pub is_cut : ℤ → Bool
is_cut cut = int_le (neg_ℤ T) cut && int_le cut T

-- the same after its cut was read
abbrev pub kept_after : ℤ → ℤ × List ℕ → Read KeptParts
kept_after first cut = if is_cut cut.0 then kept_upto first cut.0 cut.1 else None

-- what is kept of an input
abbrev pub kept_at : Form → List ℕ → Read KeptParts
kept_at form bytes = own_cut_at form.version form.least bytes >>= kept_after form.first

-- what is kept of one input more
abbrev pub with_kept : Form → List KeptParts × List ℕ → Read (List KeptParts)
with_kept form so_far = kept_at form so_far.1 >>= λ kept. Some (so_far.0 ++ kept.0 ∷ [], kept.1)

-- whether some of the output is decided, and not all
abbrev pub is_amid : Frame → ℤ → Bool
is_amid frame done = int_lt frame.start done && int_lt done frame.end

-- whether an open snapshot may start there
abbrev pub is_open : Frame → ℤ → Option ℤ → Bool
is_open frame done None = not (is_amid frame done)
is_open frame done (Some start) = is_amid frame done && int_le frame.start start && int_lt start done

-- whether the cut of no input lies below that
abbrev pub none_below : ℤ → List KeptParts → Bool
none_below cut series = list_all (λ kept. int_le cut kept.cut) series

-- whether an input has that cut
abbrev pub one_has : ℤ → List KeptParts → Bool
one_has cut series = list_any (λ kept. int_eq kept.cut cut) series

-- whether a cut is the least of the inputs' cuts, if there are any
abbrev pub is_least : ℤ → List KeptParts → Bool
is_least cut series = none_below cut series && (length series == 0 || one_has cut series)

-- the least cut and the start of the open snapshot
abbrev pub moment_at : List ℕ → Read (ℤ × Option ℤ)
moment_at bytes = do
  word ← behind (codes "cut ") bytes
  cut ← number_at 10 word
  next ← behind (codes "open ") cut.1
  start ← maybe_at (codes "none") 10 next
  Some ((cut.0, start.0), start.1)

-- the end, which nothing follows, if the cut is the least of the inputs' cuts
abbrev pub end_at : ℤ → Option ℤ → List KeptParts × List ℕ → Option BodyParts
end_at cut start series =
    if bytes_eq series.1 (codes "end\n") && is_least cut series.0
    then Some (record { cut = cut; open_start = start; series = series.0 })
    else None

-- the series of this number of inputs and the end, after the least cut and the start
abbrev pub rest_at : ℕ → Form → Option ℤ → List ℕ → Option BodyParts
rest_at inputs form start bytes = times (with_kept form) inputs ([], bytes) >>= end_at form.least start

-- by what the lines of inputs are read
abbrev pub form_of : Version → Frame → ℤ → Form
form_of version frame cut = record { version = version; first = first_kept frame cut; least = cut }

-- the same, if the cut and the start may belong to a query with that frame
abbrev pub behind_moment : Version → Frame → ℕ → (ℤ × Option ℤ) × List ℕ → Option BodyParts
behind_moment version frame inputs moment =
    if is_cut moment.0.0 && is_open frame (decided frame moment.0.0) moment.0.1
    then rest_at inputs (form_of version frame moment.0.0) moment.0.1 moment.1
    else None

-- what follows a query with that frame and this number of inputs
abbrev pub body_at : Version → Frame → ℕ → List ℕ → Option BodyParts
body_at version frame inputs bytes = moment_at bytes >>= behind_moment version frame inputs

-- what was read, and the bytes after it; nothing says what is left if nothing was read
abbrev pub Reads : {A : Type 0} → Read A → Option A → List ℕ → Type 0
Reads read result left = MatchOption result (read ≡ None) (λ x. read ≡ Some (x, left))

-- that nothing was read, or memory ran out
abbrev pub IsBad : {A : Type 0} → Option A → CheckpointFault → Type 0
IsBad read BadCheckpoint = read ≡ None
IsBad read OutOfMemory = Unit {0}

-- that the result, seen so, was read, or that its fault says why not
abbrev pub Gives : {A B : Type 0} → Option B → (A → B) → Result A CheckpointFault → Type 0
Gives read seen (Ok x) = read ≡ Some (seen x)
Gives read seen (Err fault) = IsBad read fault
