-- What is read of bytes is the valid checkpoint that they spell.
use Rattle.std.proofs.Common.{◌≡◌, ◌⊎◌, ℕ, ◌^◌, ◌<◌, ◌≤◌, List, ◌++◌, length, Option, Some, Result, Ok, Err, refl, sym, ap, ◌∙◌, arith, inl, inr, length-append}
use Rattle.std.specs.Prelude.{IfOk, IfErr, MatchResult}
use Rattle.std.specs.List.{flat_map}
use Rattle.std.proofs.lemmas.Option.{none-some, some_pair_parts}
use Rattle.tilt_syntax.specs.Tree.{StatementTree}
use Rattle.tilt_types.specs.Checked.{core_of}
use Rattle.tilt_checkpoint.specs.Checkpoint.{BodyParts, CheckpointParts, with_query}
use Rattle.tilt_checkpoint.specs.Decided.{frame_of}
use Rattle.tilt_checkpoint.specs.Reading.{IsBad, body_at, version_at}
use Rattle.tilt_checkpoint.specs.Spelling.{Spells, body_lines, cut_line, open_line, query_lines, series_lines, spelling_in, title}
use Rattle.std.specs.Prelude.{codes}
use Rattle.tilt_checkpoint.specs.Valid.{IsAccepted, IsCheckpoint}
use Rattle.tilt_checkpoint.specs.declared.decoder.Decoded.{Decoded}
use Rattle.tilt_checkpoint.specs.declared.fault.CheckpointFault.{CheckpointFault}
use Rattle.tilt_checkpoint.specs.declared.fault.CheckpointFault.TheVariants.{BadCheckpoint, OutOfMemory}
use Rattle.tilt_checkpoint.specs.declared.version.Version.{Version}
use Rattle.tilt_checkpoint.proofs.Bodies.{body-again, body-was}
use Rattle.tilt_checkpoint.proofs.Framed.{accepted_frame}
use Rattle.tilt_checkpoint.proofs.Inputs.{all_fewer}
use Rattle.tilt_checkpoint.proofs.Versions.{InVersion, spells_in, version-again}

-- what follows the query of a checkpoint
abbrev pub body_of : CheckpointParts → BodyParts
body_of c = record { cut = c.cut; open_start = c.open_start; series = c.series }

-- the lines of a checkpoint after its query
abbrev pub rest_of : Version → CheckpointParts → List ℕ
rest_of version c = body_lines version c.cut c.open_start c.series

-- what is read after a query
abbrev pub body_behind : Version → List StatementTree → List ℕ → Option BodyParts
body_behind version query left = let core = core_of query in body_at version (frame_of core) (length core.inputs) left

-- what was read is a valid checkpoint
pub read-valid : (version : Version) (query : List StatementTree) (left : List ℕ) (body : BodyParts) → IsAccepted query
    → body_behind version query left ≡ Some body → IsCheckpoint (with_query query body)
read-valid version query left body is e =
    let core = core_of query in
    let b = body-was version (frame_of core) (length core.inputs) left body e in
    record { query = is; cut = b.cut; opened = b.opened; counted = b.counted; series = b.series; least = b.least }

-- which the bytes spell
pub read-spelled : (version : Version) (query : List StatementTree) (bytes left : List ℕ) (body : BodyParts)
    → bytes ≡ title version ++ (query_lines query ++ left) → body_behind version query left ≡ Some body → Spells bytes (with_query query body)
read-spelled version query bytes left body e read =
    let core = core_of query in
    let b = body-was version (frame_of core) (length core.inputs) left body read in
    spells_in version bytes (with_query query body) b.suit (e ∙ ap (λ (t : List ℕ). title version ++ (query_lines query ++ t)) b.spelled)

series_few : (version : Version) (c : CheckpointParts) → length (flat_map (series_lines version) c.series) ≤ length (spelling_in version c)
series_few version c =
    let lines = flat_map (series_lines version) c.series in
    let end = codes "end\n" in
    let behind = open_line c.open_start ++ (lines ++ end) in
    omega (
      arith,
      length-append lines end,
      length-append (open_line c.open_start) (lines ++ end),
      length-append (cut_line c.cut) behind,
      length-append (query_lines c.query) (cut_line c.cut ++ behind),
      length-append (title version) (query_lines c.query ++ (cut_line c.cut ++ behind)),
    )

-- and a valid checkpoint is read after its query
pub valid-read : (c : CheckpointParts) (bytes : List ℕ) → IsCheckpoint c → (spelled : InVersion bytes c) → length bytes < 2 ^ 63
    → body_behind spelled.version c.query (rest_of spelled.version c) ≡ Some (body_of c)
valid-read c bytes h spelled small =
    let version = spelled.version in
    let frame = frame_of (core_of c.query) in
    let few : length (flat_map (series_lines version) c.series) < 2 ^ 63 =
    omega (arith, series_few version c, ap (λ (t : List ℕ). length t) spelled.is) in
    let again = body-again version frame c.cut c.open_start c.series (accepted_frame c.query h.query) h.cut h.opened h.series h.least spelled.suit
    (all_fewer version (2 ^ 63) c.series few) in
    ap (λ (n : ℕ). body_at version frame n (rest_of version c)) (sym h.counted) ∙ again

-- the query's lines and the lines after them are read if bytes spell a checkpoint
pub title-read : (c : CheckpointParts) (bytes : List ℕ) → (spelled : InVersion bytes c)
    → version_at bytes ≡ Some (spelled.version, query_lines c.query ++ rest_of spelled.version c)
title-read c bytes spelled = ap version_at spelled.is ∙ version-again spelled.version (query_lines c.query ++ rest_of spelled.version c)

-- so what is read of the first line is given by the checkpoint
pub title-told : (c : CheckpointParts) (bytes : List ℕ) (version : Version) (left : List ℕ) → version_at bytes ≡ Some (version, left)
    → (spelled : InVersion bytes c) → (version ≡ spelled.version) × (left ≡ query_lines c.query ++ rest_of spelled.version c)
title-told c bytes version left e spelled =
    some_pair_parts version spelled.version left (query_lines c.query ++ rest_of spelled.version c) (sym e ∙ title-read c bytes spelled)

-- if something is read, a fault is out of memory
pub only_memory : {A : Type 0} (fault : CheckpointFault) (read : Option A) (x : A) → IsBad read fault → read ≡ Some x → fault ≡ OutOfMemory
only_memory BadCheckpoint read x none some = absurd (none-some x (sym none ∙ some))
only_memory OutOfMemory read x none some = refl

-- clauses that follow

abbrev Found : Result Decoded CheckpointFault → List ℕ → Type 0
Found result bytes = IfOk result (λ decoded. IsCheckpoint decoded.checkpoint × Spells bytes decoded.checkpoint)

abbrev Only : Result Decoded CheckpointFault → List ℕ → Type 0
Only result bytes =
    (c : CheckpointParts) → IsCheckpoint c → Spells bytes c
    → MatchResult result (λ found. found.checkpoint ≡ c) (λ fault. fault ≡ OutOfMemory)

bad-memory : ◌≡◌ {A = CheckpointFault} BadCheckpoint OutOfMemory → ⊥
bad-memory e = cc e

pub refused-none : (result : Result Decoded CheckpointFault) (bytes : List ℕ) → Only result bytes
    → IfErr result (λ fault. fault ≡ BadCheckpoint → (c : CheckpointParts) → IsCheckpoint c → ¬ (Spells bytes c))
refused-none (Ok decoded) bytes only = tt
refused-none (Err fault) bytes only = λ bad c is e. bad-memory (sym bad ∙ only c is e)

one_of : (fault : CheckpointFault) → (fault ≡ BadCheckpoint) ⊎ (fault ≡ OutOfMemory)
one_of BadCheckpoint = inl refl
one_of OutOfMemory = inr refl

pub none-refused : (result : Result Decoded CheckpointFault) (bytes : List ℕ) → Found result bytes
    → ((c : CheckpointParts) → IsCheckpoint c → ¬ (Spells bytes c))
    → MatchResult result (λ _. ⊥) (λ fault. (fault ≡ BadCheckpoint) ⊎ (fault ≡ OutOfMemory))
none-refused (Ok decoded) bytes found none = none decoded.checkpoint found.0 found.1
none-refused (Err fault) bytes found none = one_of fault
