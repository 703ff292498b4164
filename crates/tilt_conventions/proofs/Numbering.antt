-- How many readings were skipped.
use Rattle.std.proofs.Common.{◌≡◌, ◌≤◌, ◌+◌, ◌-◌, ◌^◌, min, ℕ, sym, ap, ◌∙◌, arith, List, [], ◌∷◌, ◌++◌, length, length-append}
use Rattle.tilt_conventions.specs.Steps.{one_more}
use Rattle.tilt_conventions.specs.declared.turn.Reading.{Reading}

-- of so many readings so many count, and the others were skipped
pub record Counts (readings counted skipped : ℕ) : Type 0 where
  pub few : counted ≤ readings
  pub is : skipped ≡ min (readings - counted) (2 ^ 64 - 1)

more-skipped : (readings counted most : ℕ) → counted ≤ readings → min (min (readings - counted) most + 1) most ≡ min (readings + 1 - counted) most
more-skipped readings counted most few = omega arith

same-skipped : (readings counted most : ℕ) → min (readings - counted) most ≡ min (readings + 1 - (counted + 1)) most
same-skipped readings counted most = omega arith

pub skipped-more : (readings counted skipped more : ℕ) → more ≡ readings + 1 → Counts readings counted skipped → Counts more counted (one_more skipped)
skipped-more readings counted skipped more is counts =
    let few = counts.few in
    record {
      few = omega (arith, is, few);
      is = ap (λ (n : ℕ). min (n + 1) (2 ^ 64 - 1)) counts.is ∙ more-skipped readings counted (2 ^ 64 - 1) few ∙ ap (λ (n : ℕ). min (n - counted) (2 ^ 64 - 1)) (sym is);
    }

pub counted-one : (readings counted skipped more also : ℕ) → more ≡ readings + 1 → also ≡ counted + 1 → Counts readings counted skipped → Counts more also skipped
counted-one readings counted skipped more also is too counts =
    let few = counts.few in
    record {
      few = omega (arith, is, too, few);
      is = counts.is ∙ same-skipped readings counted (2 ^ 64 - 1)
          ∙ ap (λ (n : ℕ). min (n - (counted + 1)) (2 ^ 64 - 1)) (sym is) ∙ ap (λ (n : ℕ). min (more - n) (2 ^ 64 - 1)) (sym too);
    }

pub length-one : (list : List Reading) (reading : Reading) → length (list ++ reading ∷ []) ≡ length list + 1
length-one list reading = simp length-append (omega arith)
