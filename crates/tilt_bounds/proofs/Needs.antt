-- Laws of needs and of the widest of them.
use Rattle.std.proofs.Common.{◌≡◌, ℕ, zero, suc, ◌+◌, ◌<◌, pos, ◌≤ℤ◌, List, [], ◌∷◌, ◌++◌, length, map, Option, Some, None, ◌⊎◌, inl, inr, refl, sym, ap, ◌∙◌, arith}
use Rattle.std.proofs.Common.{get_or, take}
use Rattle.std.specs.Prelude.{⊤, option_map}
use Rattle.std.specs.List.{range_with_len}
use Rattle.std.proofs.Math.ListN.{get_or-append}
use Rattle.std.proofs.lemmas.Int.{ints, clamps}
use Rattle.std.proofs.lemmas.List.{get_or-append-add, take_more, length-take-le}
use Rattle.std.proofs.lemmas.List.FromFn.{get_or-map-range_with_len, length-map-range_with_len}
use Rattle.tilt_core.specs.CoreTree.{Definition}
use Rattle.tilt_core.specs.Meaning.{AreGrids}
use Rattle.tilt_core.specs.Needs.{Need, no_margin, wider, asked_from, needs_from, needs, body_need, body_needs, widest}
use Rattle.tilt_bounds.specs.Margins.{IsWithin, AreWithin, need_at}

-- needs of the same numbers are the same
pub same_need : (m n : Need) → m.back ≡ n.back → m.ahead ≡ n.ahead → m ≡ n
same_need m n back ahead = λ i. record { back = back i; ahead = ahead i }

-- a source is one of the first `count`, or comes after them
pub below_or_behind : (source count : ℕ) → (source < count) ⊎ ((k : ℕ) × (source ≡ count + k))
below_or_behind source zero = inr (source, omega arith)
below_or_behind zero (suc count) = inl (omega arith)
below_or_behind (suc source) (suc count) = elim (below_or_behind source count) [ inl l ↦ inl (omega arith) | inr e ↦ (let is = e.1 in inr (e.0, omega arith)) ]

module _ (inputs : ℕ) (defs : List Definition) where
  -- the need of an input
  pub need_at-input : (source : ℕ) → source < inputs → need_at (needs inputs defs) source ≡ asked_from inputs defs source
  need_at-input source low =
      let many = length-map-range_with_len (asked_from inputs defs) 0 inputs in
      get_or-append (map (asked_from inputs defs) (range_with_len 0 inputs)) (needs_from inputs defs) None source (omega (arith, many))
      ∙ get_or-map-range_with_len (asked_from inputs defs) 0 inputs source source None low (omega arith)

  -- the need of a definition
  pub need_at-definition : (k : ℕ) → need_at (needs inputs defs) (inputs + k) ≡ get_or (needs_from inputs defs) k None
  need_at-definition k =
      let xs = map (asked_from inputs defs) (range_with_len 0 inputs) in
      ap (λ (n : ℕ). get_or (needs inputs defs) (n + k) None) (sym (length-map-range_with_len (asked_from inputs defs) 0 inputs))
      ∙ get_or-append-add xs (needs_from inputs defs) k None

-- no widest need has a negative number
pub widest-low : (ns : List (Option Need)) → (pos 0 ≤ℤ (widest ns).back) × (pos 0 ≤ℤ (widest ns).ahead)
widest-low [] = (omega (arith, ints), omega (arith, ints))
widest-low (None ∷ ns) = widest-low ns
widest-low (Some n ∷ ns) =
    let rest = widest-low ns in
    (omega (arith, ints, clamps), omega (arith, ints, clamps))

pub wider-grows : (a b c : Need) → wider (wider a b) c ≡ wider a (wider b c)
wider-grows a b c = same_need (wider (wider a b) c) (wider a (wider b c)) (omega (arith, ints, clamps)) (omega (arith, ints, clamps))

-- the widest of two lists is the wider one of theirs
pub widest-append : (ms ns : List (Option Need)) → widest (ms ++ ns) ≡ wider (widest ms) (widest ns)
widest-append [] ns =
    let low = widest-low ns in
    same_need (widest ns) (wider no_margin (widest ns)) (omega (arith, ints, clamps)) (omega (arith, ints, clamps))
widest-append (None ∷ ms) ns = widest-append ms ns
widest-append (Some m ∷ ms) ns = ap (wider m) (widest-append ms ns) ∙ sym (wider-grows m (widest ms) (widest ns))

-- the widest of one need more
pub widest-more : (ns : List (Option Need)) (n : Need) → widest (ns ++ Some n ∷ []) ≡ wider (widest ns) n
widest-more ns n =
    let low = widest-low ns in
    widest-append ns (Some n ∷ [])
    ∙ same_need (wider (widest ns) (wider n no_margin)) (wider (widest ns) n) (omega (arith, ints, clamps)) (omega (arith, ints, clamps))

pub widest-none_more : (ns : List (Option Need)) → widest (ns ++ None ∷ []) ≡ widest ns
widest-none_more ns =
    let low = widest-low ns in
    widest-append ns (None ∷ []) ∙ same_need (wider (widest ns) no_margin) (widest ns) (omega (arith, ints, clamps)) (omega (arith, ints, clamps))

-- the widest of needs up to a place, and of one need more
pub widest-some : (ns : List (Option Need)) (i : ℕ) (n before : Need) → i < length ns → Some n ≡ get_or ns i (Some n) → before ≡ widest (take i ns) → wider before n ≡ widest (take (i + 1) ns)
widest-some ns i n before low is so_far =
    sym (ap widest (take_more ns i (Some n) low ∙ ap (λ (m : Option Need). take i ns ++ m ∷ []) (sym is)) ∙ widest-more (take i ns) n ∙ ap (λ (m : Need). wider m n) (sym so_far))

pub widest-none : (ns : List (Option Need)) (i : ℕ) (before : Need) → i < length ns → None ≡ get_or ns i None → before ≡ widest (take i ns) → before ≡ widest (take (i + 1) ns)
widest-none ns i before low is so_far =
    so_far ∙ sym (ap widest (take_more ns i None low ∙ ap (λ (m : Option Need). take i ns ++ m ∷ []) (sym is)) ∙ widest-none_more (take i ns))

-- the needs of bodies, and of one body more
body_needs-more : (defs : List Definition) (ns : List (Option Need)) (def : Definition) (n : Option Need) → length ns ≡ length defs
    → body_needs (defs ++ def ∷ []) (ns ++ n ∷ []) ≡ body_needs defs ns ++ option_map (body_need def) n ∷ []
body_needs-more [] [] def n same = refl
body_needs-more [] (m ∷ ns) def n same = absurd (omega arith)
body_needs-more (d ∷ defs) [] def n same = absurd (omega arith)
body_needs-more (d ∷ defs) (m ∷ ns) def n same = ap (λ (rest : List (Option Need)). option_map (body_need d) m ∷ rest) (body_needs-more defs ns def n (omega arith))

module _ (defs : List Definition) (ns : List (Option Need)) (i : ℕ) (def : Definition) (low : i < length defs) (same : length ns ≡ length defs) (is : def ≡ get_or defs i def) where
  up_to : (n d : Option Need) → get_or ns i d ≡ n → body_needs (take (i + 1) defs) (take (i + 1) ns) ≡ body_needs (take i defs) (take i ns) ++ option_map (body_need def) n ∷ []
  up_to n d at =
      rw (take_more defs i def low, take_more ns i d (omega arith), ← is, at)
      (body_needs-more (take i defs) (take i ns) def n (omega (arith, length-take-le i defs (omega arith), length-take-le i ns (omega arith))))

  pub widest_body-some : (n : Need) (d : Option Need) (before : Need) → get_or ns i d ≡ Some n → before ≡ widest (body_needs (take i defs) (take i ns))
      → wider before (body_need def n) ≡ widest (body_needs (take (i + 1) defs) (take (i + 1) ns))
  widest_body-some n d before at so_far =
      sym (ap widest (up_to (Some n) d at) ∙ widest-more (body_needs (take i defs) (take i ns)) (body_need def n) ∙ ap (λ (m : Need). wider m (body_need def n)) (sym so_far))

  pub widest_body-none : (d : Option Need) (before : Need) → get_or ns i d ≡ None → before ≡ widest (body_needs (take i defs) (take i ns))
      → before ≡ widest (body_needs (take (i + 1) defs) (take (i + 1) ns))
  widest_body-none d before at so_far =
      so_far ∙ sym (ap widest (up_to None d at) ∙ widest-none_more (body_needs (take i defs) (take i ns)))

-- a need, where there is one, looks no farther than another
abbrev IsNoWider : Need → Option Need → Type 0
IsNoWider limit None = ⊤
IsNoWider limit (Some n) = (n.back ≤ℤ limit.back) × (n.ahead ≤ℤ limit.ahead)

no_wider-more : (m limit : Need) (n : Option Need) → IsNoWider limit n → IsNoWider (wider m limit) n
no_wider-more m limit None h = tt
no_wider-more m limit (Some n) h = (let a = h.0 in omega (arith, ints, clamps), let a = h.1 in omega (arith, ints, clamps))

-- none of needs is wider than the widest
no_wider : (ns : List (Option Need)) (k : ℕ) → IsNoWider (widest ns) (get_or ns k None)
no_wider [] k = tt
no_wider (None ∷ ns) zero = tt
no_wider (None ∷ ns) (suc k) = no_wider ns k
no_wider (Some n ∷ ns) zero = (omega (arith, ints, clamps), omega (arith, ints, clamps))
no_wider (Some n ∷ ns) (suc k) = no_wider-more n (widest ns) (get_or ns k None) (no_wider ns k)

-- nor is the need of a definition wider than the widest of the needs of bodies
no_wider_body : (defs : List Definition) (ns : List (Option Need)) (k : ℕ) → AreGrids defs → length ns ≡ length defs → IsNoWider (widest (body_needs defs ns)) (get_or ns k None)
no_wider_body [] [] k grids many = tt
no_wider_body [] (n ∷ ns) k grids many = absurd (omega arith)
no_wider_body (def ∷ defs) [] k grids many = tt
no_wider_body (def ∷ defs) (None ∷ ns) zero grids many = tt
no_wider_body (def ∷ defs) (None ∷ ns) (suc k) grids many = no_wider_body defs ns k grids.1 (omega arith)
no_wider_body (def ∷ defs) (Some n ∷ ns) zero grids many =
    let period = grids.0.period_low in
    (omega (arith, ints, clamps), omega (arith, ints, clamps))
no_wider_body (def ∷ defs) (Some n ∷ ns) (suc k) grids many =
    no_wider-more (body_need def n) (widest (body_needs defs ns)) (get_or ns k None) (no_wider_body defs ns k grids.1 (omega arith))

-- a need that is no wider, and has no negative number, lies within
within_wider : (limit some : Need) (n : Option Need) → IsNoWider limit n → IsWithin some n → IsWithin limit n
within_wider limit some None less h = tt
within_wider limit some (Some n) less h = (h.0, less.0, h.2, less.1)

wider-left : (m limit : Need) (n : Option Need) → IsNoWider m n → IsNoWider (wider m limit) n
wider-left m limit None h = tt
wider-left m limit (Some n) h = (let a = h.0 in omega (arith, ints, clamps), let a = h.1 in omega (arith, ints, clamps))

-- all needs lie within the reach of the query that they are of
pub AreWithin-widest : (inputs defs_needs : List (Option Need)) (defs : List Definition) (some : Need) → AreGrids defs → length defs_needs ≡ length defs
    → AreWithin some (inputs ++ defs_needs) → AreWithin (widest (inputs ++ body_needs defs defs_needs)) (inputs ++ defs_needs)
AreWithin-widest inputs ns defs some grids many h = record {
  each = λ source.
      let all = widest-append inputs (body_needs defs ns) in
      rw all (elim (below_or_behind source (length inputs)) [
        | inl low ↦ (let at = get_or-append inputs ns None source low in
            within_wider (wider (widest inputs) (widest (body_needs defs ns))) some (get_or (inputs ++ ns) source None)
            (rw at (wider-left (widest inputs) (widest (body_needs defs ns)) (get_or inputs source None) (no_wider inputs source))) (h.each source))
        | inr e ↦ (let at = ap (λ (i : ℕ). get_or (inputs ++ ns) i None) e.1 ∙ get_or-append-add inputs ns e.0 None in
            within_wider (wider (widest inputs) (widest (body_needs defs ns))) some (get_or (inputs ++ ns) source None)
            (rw at (no_wider-more (widest inputs) (widest (body_needs defs ns)) (get_or ns e.0 None) (no_wider_body defs ns e.0 grids many))) (h.each source))
      ]);
}
