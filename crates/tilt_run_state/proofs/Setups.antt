-- Setups with the same spelling are the same.
use Rattle.std.proofs.Common.{◌≡◌, ℕ, Bool, true, false, if◌then◌else◌, List, [], ◌++◌, Option, None, Some, pos, refl, sym, ap, ◌∙◌, arith, append_assoc}
use Rattle.std.specs.Prelude.{◌==◌, codes, get_or, FitsSigned, ℤ}
use Rattle.std.specs.Fmt.{decimal, signed_decimal}
use Rattle.std.specs.Int.{w128}
use Rattle.std.proofs.lemmas.List.{append_cancel_left}
use Rattle.tilt_text.proofs.Lacks.{Lacks}
use Rattle.tilt_conventions.specs.declared.options.Convention.TheVariants.{Hold, Event}
use Rattle.tilt_conventions.specs.declared.options.Ties.{Ties}
use Rattle.tilt_conventions.specs.declared.options.Ties.TheVariants.{First, Last, Refuse, Spread}
use Rattle.tilt_feed_form.specs.Setup.{SetupParts}
use Rattle.tilt_live_state.specs.Spelling.{flag_text, line}
use Rattle.tilt_reading_lines.specs.Rules.{LocalValue, RulesValue, SourceValue}
use Rattle.tilt_reading_lines.specs.Titles.{Named, OfInputs}
use Rattle.tilt_reading_lines.specs.declared.rules.Moments.{Moments}
use Rattle.tilt_reading_lines.specs.declared.rules.Moments.TheVariants.{Dates, Numbers}
use Rattle.tilt_reading_text.specs.Form.{FormValue}
use Rattle.tilt_readings.specs.declared.epoch.Unit.TheVariants.{Seconds, Milliseconds, Microseconds, Nanoseconds}
use Rattle.tilt_readings.specs.declared.tick.Closed.{Closed}
use Rattle.tilt_readings.specs.declared.tick.Closed.TheVariants.{Left, Right}
use Rattle.tilt_run_state.specs.Setup.{clock_lines, closed_text, convention_line, counted_lines, fold_text, form_lines, local_lines, local_without_table, meaning_lines, moments_text}
use Rattle.tilt_run_state.specs.Setup.{null_line, rules_lines, setup_lines, source_lines, text_line, ties_text, titles_lines, without_table}
use Rattle.tilt_run_state.specs.Numbers.{AreAll, AreRules, AreTitles, HasNumbers, IsClock, IsConvention, IsForm, IsLocal, IsMeaning, IsNumber, IsSource, IsText}
use Rattle.tilt_zones.specs.declared.moments.Fold.{Fold}
use Rattle.tilt_zones.specs.declared.moments.Fold.TheVariants as fold
use Rattle.tilt_run_state.proofs.Splitting.{Splits, pair-splits}
use Rattle.tilt_run_state.proofs.Texts.{counted-splits, number-splits, signed-splits, text-splits, ticks-splits, word-splits}

-- words are read back by their first bytes

abbrev head : List ℕ → ℕ
head bytes = get_or bytes 0 0

abbrev closed_of : List ℕ → Closed
closed_of word = if get_or word 0 0 == 108 then Left else Right

closed-back : (closed : Closed) → closed_of (closed_text closed) ≡ closed
closed-back Left = refl
closed-back Right = refl

closed-lacks : (closed : Closed) → Lacks 10 (closed_text closed)
closed-lacks Left = refl
closed-lacks Right = refl

abbrev moments_of : List ℕ → Moments
moments_of word =
    if get_or word 0 0 == 100 then Dates
    else if get_or word 0 0 == 115 then Numbers Seconds
    else if get_or word 0 0 == 109 then Numbers Milliseconds
    else if get_or word 0 0 == 117 then Numbers Microseconds
    else Numbers Nanoseconds

moments-back : (moments : Moments) → moments_of (moments_text moments) ≡ moments
moments-back Dates = refl
moments-back (Numbers Seconds) = refl
moments-back (Numbers Milliseconds) = refl
moments-back (Numbers Microseconds) = refl
moments-back (Numbers Nanoseconds) = refl

moments-lack : (moments : Moments) → Lacks 10 (moments_text moments)
moments-lack Dates = refl
moments-lack (Numbers Seconds) = refl
moments-lack (Numbers Milliseconds) = refl
moments-lack (Numbers Microseconds) = refl
moments-lack (Numbers Nanoseconds) = refl

abbrev fold_of : List ℕ → Option Fold
fold_of word =
    if get_or word 0 0 == 110 then None
    else if get_or word 0 0 == 102 then Some fold.First
    else Some fold.Second

fold-back : (fold : Option Fold) → fold_of (fold_text fold) ≡ fold
fold-back None = refl
fold-back (Some fold.First) = refl
fold-back (Some fold.Second) = refl

fold-lacks : (fold : Option Fold) → Lacks 10 (fold_text fold)
fold-lacks None = refl
fold-lacks (Some fold.First) = refl
fold-lacks (Some fold.Second) = refl

abbrev ties_of : List ℕ → Ties
ties_of word =
    if get_or word 0 0 == 102 then First
    else if get_or word 0 0 == 108 then Last
    else if get_or word 0 0 == 114 then Refuse
    else Spread

ties-back : (ties : Ties) → ties_of (ties_text ties) ≡ ties
ties-back First = refl
ties-back Last = refl
ties-back Refuse = refl
ties-back Spread = refl

ties-lack : (ties : Ties) → Lacks 10 (ties_text ties)
ties-lack First = refl
ties-lack Last = refl
ties-lack Refuse = refl
ties-lack Spread = refl

abbrev flag_of : List ℕ → Bool
flag_of word = get_or word 0 0 == 121

flag-back : (flag : Bool) → flag_of (flag_text flag) ≡ flag
flag-back true = refl
flag-back false = refl

flag-lacks : (flag : Bool) → Lacks 10 (flag_text flag)
flag-lacks true = refl
flag-lacks false = refl

-- titles

named-splits : Splits (λ (p : List ℕ × List ℕ × List ℕ). IsText p.0 × IsText p.1 × IsText p.2) (λ p. text_line (codes "time") p.0 ++ (text_line (codes "name") p.1 ++ text_line (codes "value") p.2))
named-splits a b x y p q e =
    let two = pair-splits IsText IsText (text_line (codes "name")) (text_line (codes "value")) (text-splits (codes "name")) (text-splits (codes "value")) in
    let three = pair-splits IsText (λ (r : List ℕ × List ℕ). IsText r.0 × IsText r.1) (text_line (codes "time"))
    (λ r. text_line (codes "name") r.0 ++ text_line (codes "value") r.1) (text-splits (codes "time")) two in
    let s = three (a.0, (a.1, a.2)) (b.0, (b.1, b.2)) x y (p.0, (p.1, p.2)) (q.0, (q.1, q.2)) e in
    (ap (λ (r : List ℕ × (List ℕ × List ℕ)). (r.0, r.1.0, r.1.1)) s.0, s.1)

titles-splits : Splits AreTitles titles_lines
titles-splits (Named t n v) (Named u m w) x y p q e =
    let lines = named-splits (t, n, v) (u, m, w) x y p q
    (append_cancel_left (codes "named\n") ((text_line (codes "time") t ++ (text_line (codes "name") n ++ text_line (codes "value") v)) ++ x)
    ((text_line (codes "time") u ++ (text_line (codes "name") m ++ text_line (codes "value") w)) ++ y) e) in
    (ap (λ (r : List ℕ × List ℕ × List ℕ). Named r.0 r.1 r.2) lines.0, lines.1)
titles-splits (Named t n v) (OfInputs u) x y p q e = absurd (omega (arith, ap head e))
titles-splits (OfInputs t) (Named u m w) x y p q e = absurd (omega (arith, ap head e))
titles-splits (OfInputs t) (OfInputs u) x y p q e =
    let lines = text-splits (codes "time") t u x y p q
    (append_cancel_left (codes "of inputs\n") (text_line (codes "time") t ++ x) (text_line (codes "time") u ++ y) e) in
    (ap OfInputs lines.0, lines.1)

-- rules

clock-splits : Splits IsClock clock_lines
clock-splits a b x y p q e =
    let two = pair-splits (FitsSigned w128) (λ _. Unit {0}) (λ z. line (codes "origin") (signed_decimal z)) (λ c. line (codes "closed") (closed_text c))
    (signed-splits (codes "origin")) (word-splits closed_text closed_of (codes "closed") closed-lacks closed-back) in
    let three = pair-splits IsNumber (λ (r : ℤ × Closed). FitsSigned w128 r.0 × Unit {0}) (λ n. line (codes "tick") (decimal n))
    (λ r. line (codes "origin") (signed_decimal r.0) ++ line (codes "closed") (closed_text r.1)) (number-splits 10 (omega arith) (codes "tick")) two in
    let s = three (a.length, (a.origin, a.closed)) (b.length, (b.origin, b.closed)) x y (p.tick, (p.origin, tt)) (q.tick, (q.origin, tt)) e in
    (λ i. record { origin = (s.0 i).1.0; length = (s.0 i).0; closed = (s.0 i).1.1 }, s.1)

-- rules without those of local times, which come after them
abbrev without_local : RulesValue → RulesValue
without_local rules = record rules { local = None }

rules-splits : (a b : RulesValue) (x y : List ℕ) → AreRules a → AreRules b → rules_lines a ++ x ≡ rules_lines b ++ y
    → (without_local a ≡ without_local b) × (x ≡ y)
rules-splits a b x y p q e =
    let nulls = counted-splits IsText null_line (codes "nulls") (text-splits (codes "null")) in
    let two = pair-splits (AreAll IsText) (λ _. Unit {0}) (counted_lines (codes "nulls") null_line) (λ f. line (codes "skips") (flag_text f))
    nulls (word-splits flag_text flag_of (codes "skips") flag-lacks flag-back) in
    let three = pair-splits IsNumber (λ (r : List (List ℕ) × Bool). AreAll IsText r.0 × Unit {0}) (λ n. line (codes "mark") (decimal n))
    (λ r. counted_lines (codes "nulls") null_line r.0 ++ line (codes "skips") (flag_text r.1)) (number-splits 10 (omega arith) (codes "mark")) two in
    let four = pair-splits (λ _. Unit {0}) (λ (r : ℕ × (List (List ℕ) × Bool)). IsNumber r.0 × (AreAll IsText r.1.0 × Unit {0})) (λ m. line (codes "moments") (moments_text m))
    (λ r. line (codes "mark") (decimal r.0) ++ (counted_lines (codes "nulls") null_line r.1.0 ++ line (codes "skips") (flag_text r.1.1)))
    (word-splits moments_text moments_of (codes "moments") moments-lack moments-back) three in
    let five = pair-splits IsClock (λ (r : Moments × (ℕ × (List (List ℕ) × Bool))). Unit {0} × (IsNumber r.1.0 × (AreAll IsText r.1.1.0 × Unit {0}))) clock_lines
    (λ r. line (codes "moments") (moments_text r.0) ++ (line (codes "mark") (decimal r.1.0) ++ (counted_lines (codes "nulls") null_line r.1.1.0 ++ line (codes "skips") (flag_text r.1.1.1))))
    clock-splits four in
    let s = five (a.clock, (a.moments, (a.mark, (a.nulls, a.skips_empty)))) (b.clock, (b.moments, (b.mark, (b.nulls, b.skips_empty)))) x y
    (p.clock, (tt, (p.mark, (p.nulls, tt)))) (q.clock, (tt, (q.mark, (q.nulls, tt)))) e in
    (λ i. record { moments = (s.0 i).1.0; local = None; clock = (s.0 i).0; mark = (s.0 i).1.1.0; nulls = (s.0 i).1.1.1.0; skips_empty = (s.0 i).1.1.1.1 }, s.1)

-- forms

source-splits : Splits IsSource source_lines
source-splits a b x y p q e =
    let two = pair-splits IsText IsNumber (text_line (codes "source")) (λ n. line (codes "scale") (decimal n)) (text-splits (codes "source")) (number-splits 10 (omega arith) (codes "scale")) in
    let s = two (a.name, a.scale) (b.name, b.scale) x y (p.name, p.scale) (q.name, q.scale) e in
    (λ i. record { name = (s.0 i).0; scale = (s.0 i).1 }, s.1)

-- rules of local times, without the table of their zone
zone-splits : (a b : LocalValue) (x y : List ℕ) → IsText a.name → IsText b.name → local_lines (Some a) ++ x ≡ local_lines (Some b) ++ y
    → (local_without_table (Some a) ≡ local_without_table (Some b)) × (x ≡ y)
zone-splits a b x y p q e =
    let two = pair-splits IsText (λ _. Unit {0}) (text_line (codes "zone")) (λ f. line (codes "fold") (fold_text f))
    (text-splits (codes "zone")) (word-splits fold_text fold_of (codes "fold") fold-lacks fold-back) in
    let s = two (a.name, a.fold) (b.name, b.fold) x y (p, tt) (q, tt) e in
    (λ i. Some (record { zone = record { first = pos 0; transitions = []; end = pos 0 }; fold = (s.0 i).1; name = (s.0 i).0 }), s.1)

abbrev sources_lines : List SourceValue → List ℕ
sources_lines = counted_lines (codes "sources") source_lines

sources-splits : Splits (AreAll IsSource) sources_lines
sources-splits = counted-splits IsSource source_lines (codes "sources") source-splits

-- and the inputs after them
local-splits : (a b : Option LocalValue) (u v : List SourceValue) (x y : List ℕ) → IsLocal a → IsLocal b → AreAll IsSource u → AreAll IsSource v
    → (local_lines a ++ sources_lines u) ++ x ≡ (local_lines b ++ sources_lines v) ++ y
    → (local_without_table a ≡ local_without_table b) × (u ≡ v) × (x ≡ y)
local-splits None None u v x y p q r t e = let s = sources-splits u v x y r t e in (refl, s.0, s.1)
local-splits None (Some b) u v x y p q r t e = absurd (omega (arith, ap head e))
local-splits (Some a) None u v x y p q r t e = absurd (omega (arith, ap head e))
local-splits (Some a) (Some b) u v x y p q r t e =
    let one = zone-splits a b (sources_lines u ++ x) (sources_lines v ++ y) p q
    (sym (append_assoc (local_lines (Some a)) (sources_lines u) x) ∙ e ∙ append_assoc (local_lines (Some b)) (sources_lines v) y) in
    let more = sources-splits u v x y r t one.1 in
    (one.0, more.0, more.1)

-- a first part, and what follows it
first-part : {A : Type 0} (P : A → Type 0) (f : A → List ℕ) → Splits P f → (a b : A) (u v x y : List ℕ) → P a → P b
    → (f a ++ u) ++ x ≡ (f b ++ v) ++ y → (a ≡ b) × (u ++ x ≡ v ++ y)
first-part P f splits a b u v x y p q e =
    splits a b (u ++ x) (v ++ y) p q (sym (append_assoc (f a) u x) ∙ e ∙ append_assoc (f b) v y)

abbrev form_without_table : FormValue → FormValue
form_without_table form = record form { rules = record form.rules { local = local_without_table form.rules.local } }

abbrev local_and_sources : FormValue → List ℕ
local_and_sources form = local_lines form.rules.local ++ sources_lines form.sources

form-splits : (a b : FormValue) (x y : List ℕ) → IsForm a → IsForm b → form_lines a ++ x ≡ form_lines b ++ y
    → (form_without_table a ≡ form_without_table b) × (x ≡ y)
form-splits a b x y p q e =
    let one = first-part IsNumber (λ n. line (codes "delimiter") (decimal n)) (number-splits 10 (omega arith) (codes "delimiter")) a.delimiter b.delimiter
    (titles_lines a.titles ++ (rules_lines a.rules ++ local_and_sources a)) (titles_lines b.titles ++ (rules_lines b.rules ++ local_and_sources b))
    x y p.delimiter q.delimiter e in
    let two = first-part AreTitles titles_lines titles-splits a.titles b.titles (rules_lines a.rules ++ local_and_sources a)
    (rules_lines b.rules ++ local_and_sources b) x y p.titles q.titles one.1 in
    let three = rules-splits a.rules b.rules (local_and_sources a ++ x) (local_and_sources b ++ y) p.rules q.rules
    (sym (append_assoc (rules_lines a.rules) (local_and_sources a) x) ∙ two.1 ∙ append_assoc (rules_lines b.rules) (local_and_sources b) y) in
    let four = local-splits a.rules.local b.rules.local a.sources b.sources x y p.rules.local q.rules.local p.sources q.sources three.1 in
    (λ i. record { delimiter = one.0 i; titles = two.0 i; rules = record (three.0 i) { local = four.0 i }; sources = four.1 i }, four.2)

-- what readings mean

convention-splits : Splits IsConvention convention_line
convention-splits (Hold a) (Hold b) x y p q e = let s = ticks-splits (codes "hold") a b x y p q e in (ap Hold s.0, s.1)
convention-splits (Hold a) Event x y p q e = absurd (omega (arith, ap head e))
convention-splits Event (Hold b) x y p q e = absurd (omega (arith, ap head e))
convention-splits Event Event x y p q e = (refl, append_cancel_left (codes "event\n") x y e)

meaning-splits : Splits IsMeaning meaning_lines
meaning-splits a b x y p q e =
    let two = pair-splits IsConvention (λ _. Unit {0}) convention_line (λ t. line (codes "ties") (ties_text t)) convention-splits
    (word-splits ties_text ties_of (codes "ties") ties-lack ties-back) in
    let s = two (a.convention, a.ties) (b.convention, b.ties) x y (p, tt) (q, tt) e in
    (λ i. record { convention = (s.0 i).0; ties = (s.0 i).1 }, s.1)

-- setups

pub setup-splits : (a b : SetupParts) (x y : List ℕ) → HasNumbers a → HasNumbers b → setup_lines a ++ x ≡ setup_lines b ++ y
    → without_table a ≡ without_table b
setup-splits a b x y p q e =
    let one = form-splits a.form b.form (counted_lines (codes "meanings") meaning_lines a.options ++ x)
    (counted_lines (codes "meanings") meaning_lines b.options ++ y) p.form q.form
    (sym (append_assoc (form_lines a.form) (counted_lines (codes "meanings") meaning_lines a.options) x) ∙ e
    ∙ append_assoc (form_lines b.form) (counted_lines (codes "meanings") meaning_lines b.options) y) in
    let two = counted-splits IsMeaning meaning_lines (codes "meanings") meaning-splits a.options b.options x y p.options q.options one.1 in
    λ i. record { form = one.0 i; options = two.0 i }

-- nothing is left out without a zone
no_table : (local : Option LocalValue) → local ≡ None → local_without_table local ≡ local
no_table None none = refl
no_table (Some rules) none = cc

pub whole : (a : SetupParts) → a.form.rules.local ≡ None → without_table a ≡ a
whole a none = ap (λ (l : Option LocalValue). record a { form = record a.form { rules = record a.form.rules { local = l } } }) (no_table a.form.rules.local none)
