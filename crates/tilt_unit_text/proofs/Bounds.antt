-- How large places of a text can be.
use Rattle.std.proofs.Common.{◌≢◌, ℕ, ◌+◌, ◌<◌, ◌≤◌, List, [], ◌∷◌, length, ap, arith}
use Rattle.std.specs.Prelude.{All}
use Rattle.std.specs.List.{AllByRecursion}
use Rattle.std.proofs.lemmas.List.{length-append}
use Rattle.std.proofs.lemmas.List.Elements.{All-from_recursion}
use Rattle.tilt_lexer.specs.Tokens.{AreTokens, nothing, blank, token, IsFaultyAt, bad_byte, big_number, after_blank, after_token, BeginsBig}
use Rattle.tilt_lexer.specs.declared.fault.LexFault.{LexFault}
use Rattle.tilt_lexer.specs.declared.fault.LexFault.TheVariants as lexical
use Rattle.tilt_lexer.specs.declared.token.Token.{Token}
use Rattle.tilt_unit_text.specs.Points.{IsBelow, IsToken}

more_tokens : (m n : ℕ) (ts : List Token) → m ≤ n → AllByRecursion (IsToken m) ts → AllByRecursion (IsToken n) ts
more_tokens m n [] h all = tt
more_tokens m n (t ∷ ts) h all = let r = all.0 in (record { ordered = r.ordered; below = omega (arith, r.below) }, more_tokens m n ts h all.1)

pub tokens_below : {at : ℕ} {bytes : List ℕ} {ts : List Token} → AreTokens at bytes ts → AllByRecursion (IsToken (at + length bytes)) ts
tokens_below nothing = tt
tokens_below (blank {at = at} {bytes = bytes} {tokens = ts} b r) = more_tokens (at + 1 + length bytes) _ ts (omega arith) (tokens_below r)
tokens_below (token {at = at} {bytes = bytes} {text = text} {rest = rest} {tokens = ts} b within r) =
    let whole = ap length b.whole in
    let both = length-append text rest in
    (record { ordered = omega arith; below = omega arith }, more_tokens (at + length text + length rest) _ ts (omega arith) (tokens_below r))

more_below : (m n : ℕ) (f : LexFault) → m ≤ n → IsBelow m f → IsBelow n f
more_below m n (lexical.BadByte at) h b = omega arith
more_below m n (lexical.BigNumber at) h b = omega arith
more_below m n lexical.OutOfMemory h b = tt

big_some : {at : ℕ} (bytes : List ℕ) → BeginsBig bytes → at < at + length bytes
big_some bytes b =
    let whole = ap length b.begins.whole in
    let both = length-append b.text b.rest in
    let some = b.begins.is_text.0.0 in
    omega arith

pub fault_below : {at : ℕ} {bytes : List ℕ} {f : LexFault} → IsFaultyAt at bytes f → IsBelow (at + length bytes) f
fault_below (bad_byte b n) = omega arith
fault_below (big_number {bytes = bytes} b) = big_some bytes b
fault_below (after_blank {at = at} {bytes = bytes} {f = f} b r) = more_below (at + 1 + length bytes) _ f (omega arith) (fault_below r)
fault_below (after_token {at = at} {text = text} {rest = rest} {f = f} b within r) =
    let whole = ap length b.whole in
    let both = length-append text rest in
    more_below (at + length text + length rest) _ f (omega arith) (fault_below r)

pub small_tokens : (bytes : List ℕ) (ts : List Token) → length bytes < 9223372036854775808 → AreTokens 0 bytes ts → All (IsToken 9223372036854775807) ts
small_tokens bytes ts h are =
    All-from_recursion (IsToken 9223372036854775807) ts (more_tokens (0 + length bytes) 9223372036854775807 ts (omega arith) (tokens_below are))

pub small_fault : (bytes : List ℕ) (f : LexFault) → length bytes < 9223372036854775808 → (f ≢ lexical.OutOfMemory → IsFaultyAt 0 bytes f)
    → IsBelow 9223372036854775808 f
small_fault bytes (lexical.BadByte at) h is = more_below (0 + length bytes) 9223372036854775808 (lexical.BadByte at) (omega arith) (fault_below (is (λ e. cc)))
small_fault bytes (lexical.BigNumber at) h is = more_below (0 + length bytes) 9223372036854775808 (lexical.BigNumber at) (omega arith) (fault_below (is (λ e. cc)))
small_fault bytes lexical.OutOfMemory h is = tt
