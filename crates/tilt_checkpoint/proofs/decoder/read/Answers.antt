use Rattle.std.proofs.Common.{◌≡◌, ◌∙◌, ◌<◌, ◌^◌, ◌++◌, ℕ, List, Option, Some, None, Result, Ok, length, sym, ap, subst, arith}
use Rattle.std.specs.Option.{ok_or}
use Rattle.std.proofs.lemmas.Option.{same_Some}
use Rattle.std.proofs.lemmas.Result.{err_from_is_err_and}
use Rattle.tilt_checkpoint.specs.Checkpoint.{CheckpointParts, with_query}
use Rattle.tilt_checkpoint.specs.Reading.{Read, Reads, version_at}
use Rattle.tilt_checkpoint.specs.Spelling.{Spells, title}
use Rattle.tilt_checkpoint.specs.Valid.{IsCheckpoint}
use Rattle.tilt_checkpoint.specs.declared.version.Version.{Version}
use Rattle.tilt_checkpoint.proofs.Decoding.{body_behind, body_of, only_memory, read-spelled, read-valid, rest_of, title-told, valid-read}
use Rattle.tilt_checkpoint.proofs.Versions.{in_version, version-was}
use Rattle.tilt_checkpoint.proofs.decoder.read.Goals as goal

same_ok : {A E : Type 0} (x y : A) → ◌≡◌ {A = Result A E} (Ok x) (Ok y) → x ≡ y
same_ok x y e = cc e

-- a value that is returned was read
read_ok : {A E : Type 0} (read : Read A) (o : Option A) (left : List ℕ) (fault : E) (x : A) → Reads read o left → ok_or o fault ≡ Ok x
    → read ≡ Some (x, left)
read_ok read (Some y) left fault x told e = told ∙ ap (λ z. Some (z, left)) (same_ok y x e)
read_ok read None left fault x told e = absurd (cc e)

first_line : {E : Type 0} (bytes reader : List ℕ) (o : Option Version) (left : List ℕ) (fault : E) (version : Version) → reader ≡ bytes
    → Reads (version_at reader) o left → ok_or o fault ≡ Ok version → version_at bytes ≡ Some (version, left)
first_line bytes reader o left fault version same told e = ap version_at (sym same) ∙ read_ok (version_at reader) o left fault version told e

pub returns-in_err-asked-clause-only : goal.returns-in_err-asked-clause-only
returns-in_err-asked-clause-only c =
    λ k is e.
    let bytes = c.args.bytes.now in
    let first = first_line bytes c.new-reader.result c.version.result c.version.new.self _ c.in_ok-version.version c.new-reader.ensures
    c.version.ensures (sym c.ok_or.ensures.value ∙ c.in_ok-version.was) in
    let v = in_version bytes k e in
    let told = title-told k bytes c.in_ok-version.version c.version.new.self first v in
    let p = err_from_is_err_and c.from_residual-in_err-asked.result c.from_residual-in_err-asked.ensures.1 in
    rw p.1 (p.2 ∙ c.in_err-asked.ensures.only k.query (rest_of v.version k) is.query told.1)

pub returns-in_err-body-clause-only : goal.returns-in_err-body-clause-only
returns-in_err-body-clause-only c =
    λ k is e.
    let bytes = c.args.bytes.now in
    let first = first_line bytes c.new-reader.result c.version.result c.version.new.self _ c.in_ok-version.version c.new-reader.ensures
    c.version.ensures (sym c.ok_or.ensures.value ∙ c.in_ok-version.was) in
    let v = in_version bytes k e in
    let told = title-told k bytes c.in_ok-version.version c.version.new.self first v in
    let p = err_from_is_err_and c.from_residual-in_err-body.result c.from_residual-in_err-body.ensures.1 in
    let was = c.in_ok-asked.ensures in
    let found = was.only k.query (rest_of v.version k) is.query told.1 in
    let small : length bytes < 2 ^ 63 = omega arith in
    let same : body_behind c.in_ok-version.version c.in_ok-asked.asked.query c.read_query.new.reader ≡ body_behind v.version k.query (rest_of v.version k) =
    λ i. body_behind (told.0 i) (found.0 i) (found.1 i) in
    rw p.1 (p.2 ∙ only_memory c.in_err-body.field-0.0 _ (body_of k) (rw was.core at c.in_err-body.ensures) (same ∙ valid-read k bytes is v small))

pub whole-requires : goal.whole-requires
whole-requires c =
    let was = c.in_ok-asked.ensures in
    read-valid c.in_ok-version.version c.in_ok-asked.asked.query c.read_query.new.reader c.in_ok-body.body was.found.0
    (rw was.core at c.in_ok-body.ensures)

pub returns-clause-checkpoint : goal.returns-clause-checkpoint
returns-clause-checkpoint c =
    let bytes = c.args.bytes.now in
    let first = first_line bytes c.new-reader.result c.version.result c.version.new.self _ c.in_ok-version.version c.new-reader.ensures
    c.version.ensures (sym c.ok_or.ensures.value ∙ c.in_ok-version.was) in
    let version = c.in_ok-version.version in
    let query = c.in_ok-asked.asked.query in
    let was = c.in_ok-asked.ensures in
    let left = c.read_query.new.reader in
    let body = c.in_ok-body.body in
    let read = rw was.core at c.in_ok-body.ensures in
    let lines = version-was bytes version c.version.new.self first ∙ ap (λ (t : List ℕ). title version ++ t) was.found.1 in
    let spelled = read-spelled version query bytes left body lines read in
    subst (λ (k : CheckpointParts). IsCheckpoint k × Spells bytes k) (sym c.whole.ensures) (read-valid version query left body was.found.0 read, spelled)

pub returns-clause-only : goal.returns-clause-only
returns-clause-only c =
    λ k is e.
    let bytes = c.args.bytes.now in
    let first = first_line bytes c.new-reader.result c.version.result c.version.new.self _ c.in_ok-version.version c.new-reader.ensures
    c.version.ensures (sym c.ok_or.ensures.value ∙ c.in_ok-version.was) in
    let v = in_version bytes k e in
    let told = title-told k bytes c.in_ok-version.version c.version.new.self first v in
    let was = c.in_ok-asked.ensures in
    let found = was.only k.query (rest_of v.version k) is.query told.1 in
    let small : length bytes < 2 ^ 63 = omega arith in
    let asked = body_behind c.in_ok-version.version c.in_ok-asked.asked.query c.read_query.new.reader in
    let same : asked ≡ body_behind v.version k.query (rest_of v.version k) = λ i. body_behind (told.0 i) (found.0 i) (found.1 i) in
    let read : asked ≡ Some c.in_ok-body.body = rw was.core at c.in_ok-body.ensures in
    let body = same_Some c.in_ok-body.body (body_of k) (sym read ∙ same ∙ valid-read k bytes is v small) in
    c.whole.ensures ∙ (λ i. with_query (found.0 i) (body i))
