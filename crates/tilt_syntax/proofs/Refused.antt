-- Tokens are rejected for one fault at most, and not if they are a query.
use Rattle.std.proofs.Common.{◌≡◌, ◌≢◌, ◌+◌, ◌⊎◌, inl, inr, ℕ, List, [], ◌∷◌, refl, arith}
use Rattle.tilt_lexer.specs.declared.token.Tok.{Tok}
use Rattle.tilt_syntax.specs.Query.{statements, IsGood, AreGood, IsQueryOf, HasFault, too_long, no_statement, misplaced, FirstFault, here, later, IsRefused, too_many, no_tokens, faulty}
use Rattle.tilt_syntax.specs.Tree.{StatementTree}
use Rattle.tilt_syntax.specs.declared.fault.SyntaxFault.{SyntaxFault}
use Rattle.tilt_syntax.specs.declared.fault.SyntaxFault.TheVariants as fault
use Rattle.tilt_syntax.proofs.Unique.{one_statement}

-- a good statement has no fault
good-or-faulty : (n : ℕ) (ts : List Tok) (behind : List (List Tok)) (s : StatementTree) (f : SyntaxFault) → IsGood ts behind s
    → HasFault n ts behind f → ⊥
good-or-faulty n ts behind s f g (too_long long) = let short = g.short in omega arith
good-or-faulty n ts behind s f g (no_statement short fails) = fails s g.parsed
good-or-faulty n ts behind s f g (misplaced t short is fails) =
    let same = one_statement ts s t g.parsed is in fails (rw same at g.in_place)

one_fault : (n : ℕ) (ts : List Tok) (behind : List (List Tok)) (f g : SyntaxFault) → HasFault n ts behind f → HasFault n ts behind g
    → f ≡ g
one_fault n ts behind f g (too_long a) (too_long b) = refl
one_fault n ts behind f g (too_long a) (no_statement b c) = absurd (omega arith)
one_fault n ts behind f g (too_long a) (misplaced s b c d) = absurd (omega arith)
one_fault n ts behind f g (no_statement a b) (too_long c) = absurd (omega arith)
one_fault n ts behind f g (no_statement a b) (no_statement c d) = refl
one_fault n ts behind f g (no_statement a b) (misplaced s c d e) = absurd (b s d)
one_fault n ts behind f g (misplaced s a b c) (too_long d) = absurd (omega arith)
one_fault n ts behind f g (misplaced s a b c) (no_statement d e) = absurd (e s b)
one_fault n ts behind f g (misplaced s a b c) (misplaced t d e h) = refl

one_first : (n : ℕ) (ss : List (List Tok)) (f g : SyntaxFault) → FirstFault n ss f → FirstFault n ss g → f ≡ g
one_first n ss f g (here {ts = ts} {rest = rest} a) (here b) = one_fault n ts rest f g a b
one_first n ss f g (here {ts = ts} {rest = rest} a) (later s b c) = absurd (good-or-faulty n ts rest s f b a)
one_first n ss f g (later {ts = ts} {rest = rest} s a b) (here c) = absurd (good-or-faulty n ts rest s g a c)
one_first n ss f g (later {rest = rest} s a b) (later t c d) = one_first (n + 1) rest f g b d

all-good : (n : ℕ) (ss : List (List Tok)) (q : List StatementTree) (f : SyntaxFault) → AreGood ss q → FirstFault n ss f → ⊥
all-good n ss [] f g (here h) = absurd g
all-good n ss (s ∷ q) f g (here {ts = ts} {rest = rest} h) = good-or-faulty n ts rest s f g.0 h
all-good n ss [] f g (later s a b) = absurd g
all-good n ss (t ∷ q) f g (later {rest = rest} s a b) = all-good (n + 1) rest q f g.1 b

pub one_refusal : (ts : List Tok) (f g : SyntaxFault) → IsRefused ts f → IsRefused ts g → f ≡ g
one_refusal ts f g (too_many a) (too_many b) = refl
one_refusal ts f g (too_many a) no_tokens = absurd (omega arith)
one_refusal ts f g (too_many a) (faulty b c) = absurd (omega arith)
one_refusal ts f g no_tokens (too_many a) = absurd (omega arith)
one_refusal ts f g no_tokens no_tokens = refl
one_refusal ts f g no_tokens (faulty a b) = elim b [ ]
one_refusal ts f g (faulty a b) (too_many c) = absurd (omega arith)
one_refusal ts f g (faulty a b) no_tokens = elim b [ ]
one_refusal ts f g (faulty a b) (faulty c d) = one_first 1 (statements ts) f g b d

pub query-or-refused : (ts : List Tok) (q : List StatementTree) (f : SyntaxFault) → IsQueryOf ts q → IsRefused ts f → ⊥
query-or-refused ts q f g (too_many a) = let few = g.few in omega arith
query-or-refused ts q f g no_tokens = let some = g.some in omega arith
query-or-refused ts q f g (faulty a b) = all-good 1 (statements ts) q f g.good b

-- what isn't another fault is out of memory
memory : (f : SyntaxFault) → (f ≢ fault.OutOfMemory → ⊥) → f ≡ fault.OutOfMemory
memory fault.OutOfMemory h = refl
memory f h = absurd (h (λ e. cc))

pub only-memory : (ts : List Tok) (f : SyntaxFault) → (f ≢ fault.OutOfMemory → IsRefused ts f) → (q : List StatementTree)
    → IsQueryOf ts q → f ≡ fault.OutOfMemory
only-memory ts f h q g = memory f (λ other. query-or-refused ts q f g (h other))

pub only-fault : (ts : List Tok) (f : SyntaxFault) → (f ≢ fault.OutOfMemory → IsRefused ts f) → (g : SyntaxFault) → IsRefused ts g
    → (f ≡ g) ⊎ (f ≡ fault.OutOfMemory)
only-fault ts fault.OutOfMemory h g is = inr refl
only-fault ts f h g is = inl (one_refusal ts f g (h (λ e. cc)) is)
