-- Bytes spell a valid checkpoint, or none: they are read.
use Rattle.std.proofs.Common.{◌≡◌, ◌⊎◌, inl, inr, ◌∙◌, ℕ, ◌^◌, ◌<◌, List, ◌++◌, length, Option, Some, None, Result, Ok, Err, refl, sym, ap, subst}
use Rattle.std.specs.Str.{bytes_eq}
use Rattle.std.proofs.lemmas.Bool.{cases_Bool, cases_eq, false≢true}
use Rattle.std.proofs.lemmas.Option.{none-some, some_pair_parts}
use Rattle.tilt_base.proofs.Comparisons.{bytes_same, same_bytes}
use Rattle.tilt_bounds.specs.Margins.{MarginsParts, margins_of}
use Rattle.tilt_core.specs.Core.{CoreParts}
use Rattle.tilt_core.specs.Needs.{Need}
use Rattle.tilt_lexer.proofs.Sound.{sound}
use Rattle.tilt_lexer.proofs.Unique as unique
use Rattle.tilt_lexer.proofs.Unique.{same_tokens}
use Rattle.tilt_lexer.proofs.Whole.{tokens_or_fault}
use Rattle.tilt_lexer.specs.Tokens.{AreTokens}
use Rattle.tilt_lexer.specs.declared.token.Token.{Token}
use Rattle.tilt_syntax.proofs.Judged.{query_or_refused}
use Rattle.tilt_syntax.proofs.Law.{reads_back}
use Rattle.tilt_syntax.proofs.Parsing.{sound-kinds}
use Rattle.tilt_syntax.proofs.Refused.{query-or-refused}
use Rattle.tilt_syntax.specs.Printing.{query_text}
use Rattle.tilt_syntax.specs.Query.{AreSound, IsQuery, IsQueryOf, kinds}
use Rattle.tilt_syntax.specs.Tree.{StatementTree}
use Rattle.tilt_types.proofs.CheckedCore.{checked-core}
use Rattle.tilt_types.specs.Checked.{checked, core_of}
use Rattle.tilt_types.specs.declared.fault.CheckFault.{CheckFault}
use Rattle.tilt_checkpoint.specs.Checkpoint.{BodyParts, CheckpointParts, with_query}
use Rattle.tilt_checkpoint.specs.Reading.{query_at, version_at}
use Rattle.tilt_checkpoint.specs.Spelling.{Spells, query_lines, title}
use Rattle.tilt_checkpoint.specs.Valid.{IsAccepted, IsCheckpoint}
use Rattle.tilt_checkpoint.specs.declared.version.Version.{Version}
use Rattle.tilt_checkpoint.proofs.Decoding.{body_behind, body_of, read-spelled, read-valid, rest_of, title-read, title-told, valid-read}
use Rattle.tilt_checkpoint.proofs.Queries.{lines-spelled, query-again}
use Rattle.tilt_checkpoint.proofs.Spelled.{one_printed}
use Rattle.tilt_checkpoint.proofs.Versions.{InVersion, in_version, version-was}

-- a query is accepted, or not
near-or-not : (query : List StatementTree) → IsQuery query → checked query ≡ Ok (core_of query) → (answer : Result MarginsParts Need)
    → margins_of (core_of query) ≡ answer → IsAccepted query ⊎ (¬ (IsAccepted query))
near-or-not query parsed well (Ok margins) near = inl (record { parsed = parsed; well_formed = well; margins = margins; near = near })
near-or-not query parsed well (Err widest) far = inr (λ is. let both : Err widest ≡ Ok is.margins = sym far ∙ is.near in cc)

accepted-or-not : (query : List StatementTree) → IsQuery query → (answer : Result CoreParts CheckFault) → checked query ≡ answer
    → IsAccepted query ⊎ (¬ (IsAccepted query))
accepted-or-not query parsed (Ok core) well =
    let own = checked-core query core well in
    near-or-not query parsed (well ∙ ap (λ (c : CoreParts). Ok c) (sym own)) (margins_of (core_of query)) refl
accepted-or-not query parsed (Err fault) ill =
    inr (λ is. let both : Err fault ≡ Ok (core_of query) = sym ill ∙ is.well_formed in cc)

-- a text is the printing of an accepted query of `count` statements
record IsAsked (count : ℕ) (text : List ℕ) (query : List StatementTree) : Type 0 where
  accepted : IsAccepted query
  counted : length query ≡ count
  printed : text ≡ query_text query

-- it is the printing of one, or of none
abbrev Asks : ℕ → List ℕ → Type 0
Asks count text = ((query : List StatementTree) × IsAsked count text query) ⊎ ((query : List StatementTree) → ¬ (IsAsked count text query))

module _ (count : ℕ) (text : List ℕ) (tokens : List Token) (are : AreTokens 0 text tokens) where
  -- its tokens are those of the query
  tokens-of : (query : List StatementTree) → IsAsked count text query → IsQueryOf (kinds tokens) query
  tokens-of query is =
      let back = reads_back query is.accepted.parsed in
      subst (λ (ts : List Token). IsQueryOf (kinds ts) query) (same_tokens back.are are refl (sym is.printed)) back.parsed

  same-query : (query other : List StatementTree) → IsQueryOf (kinds tokens) query → IsAsked count text other → query ≡ other
  same-query query other parsed is =
      let back = reads_back other is.accepted.parsed in
      back.only tokens query (subst (λ (t : List ℕ). AreTokens 0 t tokens) is.printed are) parsed

  asked-by : (query : List StatementTree) → IsQueryOf (kinds tokens) query → IsAccepted query ⊎ (¬ (IsAccepted query)) → Asks count text
  asked-by query parsed (inr none) = inr (λ other is. none (subst IsAccepted (sym (same-query query other parsed is)) is.accepted))
  asked-by query parsed (inl accepted) =
      elim (cases_eq (length query) count) [
        | inr fewer ↦ inr (λ other is. fewer (ap length (same-query query other parsed is) ∙ is.counted))
        | inl many ↦ elim (cases_Bool (bytes_eq text (query_text query))) [
          | inl same ↦ inl (query, record { accepted = accepted; counted = many; printed = bytes_same text (query_text query) same })
          | inr differs ↦ inr (λ other is.
              let printed : text ≡ query_text query = is.printed ∙ ap query_text (sym (same-query query other parsed is)) in
              false≢true (sym differs ∙ ap (bytes_eq text) (sym printed) ∙ same_bytes text))
        ]
      ]

  asks-tokens : Asks count text
  asks-tokens =
      let good : AreSound (kinds tokens) = sound-kinds tokens (sound are) in
      elim (query_or_refused (kinds tokens) good) [
        | inl found ↦ (let is : IsQuery found.0 = record { tokens = kinds tokens; sound = good; parsed = found.1 } in
            asked-by found.0 found.1 (accepted-or-not found.0 is (checked found.0) refl))
        | inr refused ↦ inr (λ other is. query-or-refused (kinds tokens) other refused.0 (tokens-of other is) refused.1)
      ]

asks : (count : ℕ) (text : List ℕ) → Asks count text
asks count text =
    elim (tokens_or_fault text) [
      | inl read ↦ asks-tokens count text read.0 read.1
      | inr faulty ↦ inr (λ other is. unique.tokens_or_fault (reads_back other is.accepted.parsed).are faulty.1 (sym is.printed))
    ]

-- bytes spell a valid checkpoint, or none
abbrev pub SpellOrNot : List ℕ → Type 0
SpellOrNot bytes = ((c : CheckpointParts) × IsCheckpoint c × Spells bytes c) ⊎ ((c : CheckpointParts) → IsCheckpoint c → ¬ (Spells bytes c))

module _ (bytes : List ℕ) (small : length bytes < 2 ^ 63) where
  module _ (version : Version) (rest : List ℕ) (told : version_at bytes ≡ Some (version, rest)) where
    -- what is read of the query's lines if the bytes spell a checkpoint
    lines-of : (c : CheckpointParts) → IsCheckpoint c → (v : InVersion bytes c)
        → query_at rest ≡ Some ((length c.query, query_text c.query), rest_of v.version c)
    lines-of c valid v = ap query_at (title-told c bytes version rest told v).1 ∙ query-again c.query (rest_of v.version c) valid.query.parsed

    module _ (count : ℕ) (text left : List ℕ) (e : query_at rest ≡ Some ((count, text), left)) where
      spells-body : (query : List StatementTree) → IsAsked count text query → (body : Option BodyParts) → body_behind version query left ≡ body
          → SpellOrNot bytes
      spells-body query is (Some body) read =
          let lines = lines-spelled rest count text left query e is.counted is.printed in
          let whole = version-was bytes version rest told ∙ ap (λ (t : List ℕ). title version ++ t) lines in
          inl (with_query query body, read-valid version query left body is.accepted read, read-spelled version query bytes left body whole read)
      spells-body query is None none =
          inr (λ c valid same.
          let v = in_version bytes c same in
          let p = some_pair_parts (count, text) (length c.query, query_text c.query) left (rest_of v.version c) (sym e ∙ lines-of c valid v) in
          let printed = sym (sym (ap (λ (q : ℕ × List ℕ). q.1) p.0) ∙ is.printed) in
          let own = one_printed query c.query is.accepted.parsed valid.query.parsed printed in
          let own_title = (title-told c bytes version rest told v).0 in
          none-some (body_of c) (sym none ∙ (λ i. body_behind (own_title i) (sym own i) (p.1 i)) ∙ valid-read c bytes valid v small))

      spells-lines : Asks count text → SpellOrNot bytes
      spells-lines (inl asked) = spells-body asked.0 asked.1 (body_behind version asked.0 left) refl
      spells-lines (inr none) =
          inr (λ c valid same.
          let v = in_version bytes c same in
          let p = some_pair_parts (count, text) (length c.query, query_text c.query) left (rest_of v.version c) (sym e ∙ lines-of c valid v) in
          none c.query (record {
            accepted = valid.query;
            counted = sym (ap (λ (q : ℕ × List ℕ). q.0) p.0);
            printed = ap (λ (q : ℕ × List ℕ). q.1) p.0;
          }))

    spells-after : (at : Option ((ℕ × List ℕ) × List ℕ)) → query_at rest ≡ at → SpellOrNot bytes
    spells-after None none =
        inr (λ c valid same.
        let v = in_version bytes c same in
        none-some ((length c.query, query_text c.query), rest_of v.version c) (sym none ∙ lines-of c valid v))
    spells-after (Some found) e = spells-lines found.0.0 found.0.1 found.1 e (asks found.0.0 found.0.1)

  spells-title : (at : Option (Version × List ℕ)) → version_at bytes ≡ at → SpellOrNot bytes
  spells-title None none =
      inr (λ c valid same.
      let v = in_version bytes c same in
      none-some (v.version, query_lines c.query ++ rest_of v.version c) (sym none ∙ title-read c bytes v))
  spells-title (Some found) told = spells-after found.0 found.1 told (query_at found.1) refl

  pub spelled_or_not : SpellOrNot bytes
  spelled_or_not = spells-title (version_at bytes) refl
