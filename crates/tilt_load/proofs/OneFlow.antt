-- A pipeline file gives one pipeline, or one reason why it is none.
use Rattle.std.proofs.Common.{◌≡◌, ◌≢◌, ◌∙◌, ◌<◌, ◌≤◌, ◌⊎◌, List, ℕ, length, inl, inr, Result, Ok, Err, refl, sym, ap, arith}
use Rattle.std.specs.Prelude.{⊤}
use Rattle.std.proofs.lemmas.Bool.{cases_lt}
use Rattle.tilt_base.specs.declared.limits.TheConstants.{FILE}
use Rattle.tilt_bounds.specs.Margins.{IsTold, MarginsParts, margins_of}
use Rattle.tilt_bounds.specs.declared.fault.ReachFault.{ReachFault}
use Rattle.tilt_bounds.specs.declared.fault.ReachFault.TheVariants as reach
use Rattle.tilt_core.specs.Core.{CoreParts}
use Rattle.tilt_core.specs.Needs.{Need}
use Rattle.tilt_lexer.proofs.Sound.{sound}
use Rattle.tilt_lexer.proofs.Whole as whole
use Rattle.tilt_lexer.specs.Tokens.{AreTokens, IsFaultyAt}
use Rattle.tilt_lexer.specs.declared.fault.LexFault.{LexFault}
use Rattle.tilt_lexer.specs.declared.fault.LexFault.TheVariants as lexical
use Rattle.tilt_lexer.specs.declared.token.Tok.{Tok}
use Rattle.tilt_lexer.specs.declared.token.Token.{Token}
use Rattle.tilt_load.proofs.Told.{IsRefusal, place_told, same_far, same_reason}
use Rattle.tilt_load.specs.FlowFile.{HasFlow, TakesFlow, RefusesFlow, long, no_flow, far}
use Rattle.tilt_load.specs.Load.{IsLoadFault, IsTooLong}
use Rattle.tilt_operators.proofs.Accepted.{accepted}
use Rattle.tilt_operators.proofs.Judged.{tokens_judged}
use Rattle.tilt_operators.proofs.Unique.{one_text, only_fault, text-or-refused}
use Rattle.tilt_operators.specs.Desugared.{query_of}
use Rattle.tilt_operators.specs.Flow.{FlowTree}
use Rattle.tilt_operators.specs.Steps.{IsFlow, IsFlowOf, IsFlowText, IsRefused, IsRefusedText, bad_step, step_type}
use Rattle.tilt_operators.specs.Steps as text
use Rattle.tilt_operators.specs.declared.fault.FlowFault.{FlowFault}
use Rattle.tilt_operators.specs.declared.fault.FlowFault.TheVariants as fault
use Rattle.tilt_report.specs.Report.{Reason, refusal, file_too_long, too_far, out_of_memory, report_of_check, report_of_flow, report_of_reach}
use Rattle.tilt_syntax.proofs.Parsing.{sound-kinds}
use Rattle.tilt_syntax.specs.Query.{kinds}
use Rattle.tilt_syntax.specs.Tree.{StatementTree}
use Rattle.tilt_types.proofs.CheckedCore.{checked-core}
use Rattle.tilt_types.specs.Checked.{checked, core_of}
use Rattle.tilt_types.specs.declared.fault.CheckFault.{CheckFault}
use Rattle.tilt_types.specs.declared.fault.CheckFault.TheVariants as check

-- the core of a pipeline's query
abbrev core : FlowTree → CoreParts
core flow = core_of (query_of flow)

near_or_far : {m : MarginsParts} {n : Need} → (let x : Result MarginsParts Need = Ok m in x ≡ Err n) → ⊥
near_or_far e = cc

no_memory : (r : Reason) → out_of_memory ≡ refusal r → ⊥
no_memory r e = cc

-- what the checks say of the query of a pipeline
pub check_known : (flow : FlowTree) (query : List StatementTree) (c : CoreParts) → query ≡ query_of flow → checked query ≡ Ok c → c ≡ core flow
check_known flow query c same is = sym (checked-core query c is) ∙ ap core_of same

good_or_bad : {c : CoreParts} {f : CheckFault} → (let x : Result CoreParts CheckFault = Ok c in x ≡ Err f) → ⊥
good_or_bad e = cc

-- they reject it only if they are out of memory
pub check_memory : (name bytes : List ℕ) (flow : FlowTree) (query : List StatementTree) (f : CheckFault) → IsFlow flow → query ≡ query_of flow
    → (f ≡ check.OutOfMemory) ⊎ (checked query ≡ Err f) → IsLoadFault ⊤ (RefusesFlow name bytes) (λ _. ⊥) 0 0 (report_of_check f)
check_memory name bytes flow query f is same (inl memory) = rw memory tt
check_memory name bytes flow query f is same (inr bad) =
    let good : checked (query_of flow) ≡ Ok (core flow) = rw (accepted flow is) refl in
    absurd (good_or_bad (sym good ∙ ap checked (sym same) ∙ bad))

-- the pipeline of a text is one that some tokens read as
pub has_valid : (bytes : List ℕ) (flow : FlowTree) → IsFlowText bytes flow → IsFlow flow
has_valid bytes flow is = record { tokens = kinds is.tokens; sound = sound-kinds is.tokens (sound is.lexed); read = is.read }

module _ (bytes : List ℕ) where
  -- a pipeline file that is taken has one pipeline
  pub flow_once : (f g : FlowTree) → TakesFlow bytes f → TakesFlow bytes g → f ≡ g
  flow_once f g taken taken' = one_text bytes f g taken.has_flow.read taken'.has_flow.read

  -- and a text has one fault that is reported
  one_fault : (f g : FlowFault) (r : Reason) → report_of_flow f ≡ refusal r → IsRefusedText bytes f → IsRefusedText bytes g → f ≡ g
  one_fault f g r told is is' =
      elim (only_fault bytes f (λ _. is) g is') [
        | inl same ↦ same
        | inr memory ↦ absurd (no_memory r (sym (ap report_of_flow memory) ∙ told))
      ]

module _ (name bytes : List ℕ) where
  same_fault : (f g : FlowFault) (r s : Reason) → report_of_flow f ≡ refusal r → report_of_flow g ≡ refusal s → f ≡ g → r ≡ s
  same_fault f g r s told told' same = same_reason (report_of_flow f) r s told (ap report_of_flow same ∙ told')

  -- it is rejected for one reason
  pub flow_refused_once : (r s : Reason) → RefusesFlow name bytes r → RefusesFlow name bytes s → r ≡ s
  flow_refused_once r s (long over) (long over') = refl
  flow_refused_once r s (long over) (no_flow f short is told) = absurd (omega (arith, over, short))
  flow_refused_once r s (long over) (far flow widest has is) = absurd (omega (arith, over, has.short))
  flow_refused_once r s (no_flow f short is told) (long over) = absurd (omega (arith, over, short))
  flow_refused_once r s (no_flow f short is told) (no_flow g short' is' told') =
      same_fault f g r s told told' (one_fault bytes f g r told is is')
  flow_refused_once r s (no_flow f short is told) (far flow widest has is') = absurd (text-or-refused bytes flow f has.read is)
  flow_refused_once r s (far flow widest has is) (long over) = absurd (omega (arith, over, has.short))
  flow_refused_once r s (far flow widest has is) (no_flow f short is' told) = absurd (text-or-refused bytes flow f has.read is')
  flow_refused_once r s (far flow widest has is) (far flow' widest' has' is') =
      let same = same_far (sym is ∙ ap (λ (f : FlowTree). margins_of (core f)) (one_text bytes flow flow' has.read has'.read) ∙ is') in
      rw same refl

  -- it is taken, or rejected
  pub flow_refused_or_taken : (r : Reason) (flow : FlowTree) → RefusesFlow name bytes r → TakesFlow bytes flow → ⊥
  flow_refused_or_taken r flow (long over) taken = absurd (omega (arith, over, taken.has_flow.short))
  flow_refused_or_taken r flow (no_flow f short is told) taken = text-or-refused bytes flow f taken.has_flow.read is
  flow_refused_or_taken r flow (far other widest has is) taken =
      near_or_far (sym taken.reach ∙ ap (λ (f : FlowTree). margins_of (core f)) (one_text bytes flow other taken.has_flow.read has.read) ∙ is)

  -- one of the two always
  abbrev IsEither : Type 0
  IsEither = ((flow : FlowTree) × TakesFlow bytes flow) ⊎ ((r : Reason) × RefusesFlow name bytes r)

  module _ (short : length bytes ≤ FILE) where
    by_margins : (flow : FlowTree) → HasFlow bytes flow → (m : Result MarginsParts Need) → margins_of (core flow) ≡ m → IsEither
    by_margins flow has (Ok m) near = inl (flow, record { has_flow = has; margins = m; reach = near })
    by_margins flow has (Err widest) is = inr (too_far widest.back widest.ahead, far flow widest has is)

    module _ (tokens : List Token) (lexed : AreTokens 0 bytes tokens) where
      by_refusal : (f : FlowFault) → IsRefused (kinds tokens) f → IsRefusal (report_of_flow f) → IsEither
      by_refusal f is told = inr (told.0, no_flow f short (text.no_flow tokens lexed is) told.1)

      fault_told : (ts : List Tok) (f : FlowFault) → IsRefused ts f → IsRefusal (report_of_flow f)
      fault_told ts f (bad_step bad) = (_, refl)
      fault_told ts f (step_type flow are untyped) = (_, refl)

      by_tokens : ((flow : FlowTree) × IsFlowOf (kinds tokens) flow) ⊎ ((f : FlowFault) × IsRefused (kinds tokens) f) → IsEither
      by_tokens (inl (flow, is)) =
          by_margins flow (record { short = short; read = record { tokens = tokens; lexed = lexed; read = is } }) (margins_of (core flow)) refl
      by_tokens (inr (f, is)) = by_refusal f is (fault_told (kinds tokens) f is)

    by_place : (f : LexFault) → IsFaultyAt 0 bytes f → IsEither
    by_place (lexical.BadByte at) faulty = inr (_, no_flow (fault.BadByte at) short (text.bad_byte faulty) refl)
    by_place (lexical.BigNumber at) faulty = inr (_, no_flow (fault.BigNumber at) short (text.big_number faulty) refl)
    by_place lexical.OutOfMemory faulty =
        let told = place_told 0 bytes lexical.OutOfMemory faulty in
        absurd (no_memory told.0 told.1)

    by_lex : ((tokens : List Token) × AreTokens 0 bytes tokens) ⊎ ((f : LexFault) × IsFaultyAt 0 bytes f) → IsEither
    by_lex (inl (tokens, lexed)) = by_tokens tokens lexed (tokens_judged (kinds tokens))
    by_lex (inr (f, faulty)) = by_place f faulty

  by_length : (FILE < length bytes) ⊎ (length bytes ≤ FILE) → IsEither
  by_length (inl over) = inr (file_too_long name, long over)
  by_length (inr short) = by_lex short (whole.tokens_or_fault bytes)

  pub flow_taken_or_refused : ((flow : FlowTree) × TakesFlow bytes flow) ⊎ ((r : Reason) × RefusesFlow name bytes r)
  flow_taken_or_refused = by_length (cases_lt FILE (length bytes))

  -- a file that is too long is no pipeline
  pub flow_too_long : (why : Reason) → IsTooLong name bytes why → RefusesFlow name bytes why
  flow_too_long why is = rw is.0 (long is.1)

  -- a text that is no pipeline is rejected, unless the fault is `OutOfMemory`
  pub flow_refuses : (f : FlowFault) → length bytes ≤ FILE → (f ≢ fault.OutOfMemory → IsRefusedText bytes f)
      → IsLoadFault ⊤ (RefusesFlow name bytes) (λ _. ⊥) 0 0 (report_of_flow f)
  flow_refuses (fault.BadByte at) short known = λ _. no_flow (fault.BadByte at) short (known (λ e. cc)) refl
  flow_refuses (fault.BigNumber at) short known = λ _. no_flow (fault.BigNumber at) short (known (λ e. cc)) refl
  flow_refuses (fault.BadStep n) short known = λ _. no_flow (fault.BadStep n) short (known (λ e. cc)) refl
  flow_refuses (fault.StepType n) short known = λ _. no_flow (fault.StepType n) short (known (λ e. cc)) refl
  flow_refuses fault.OutOfMemory short known = tt

  -- a pipeline whose query looks too far is rejected, unless the fault is `OutOfMemory`
  pub far_refuses : (flow : FlowTree) (c : CoreParts) (f : ReachFault) → HasFlow bytes flow → c ≡ core flow → IsTold (margins_of c) f
      → IsLoadFault ⊤ (RefusesFlow name bytes) (λ _. ⊥) 0 0 (report_of_reach f)
  far_refuses flow c (reach.TooFar back ahead) has same is =
      λ _. far flow (record { back = back; ahead = ahead }) has (ap margins_of (sym same) ∙ is)
  far_refuses flow c reach.OutOfMemory has same is = tt
