use Rattle.tilt_syntax.proofs.Texts.{keeps-sound, keeps-only, keeps-first}
use Rattle.tilt_syntax.proofs.text.keep_tokens.Goals as goal

pub returns-clause-sound : goal.returns-clause-sound
returns-clause-sound c =
    keeps-sound c.args.bytes.now (λ kept. kept.items) c.trim_tokens.result c.trim_tokens.ensures.kept c.trim_tokens.ensures.faulty

pub returns-clause-only : goal.returns-clause-only
returns-clause-only c =
    keeps-only c.args.bytes.now (λ kept. kept.items) c.trim_tokens.result c.trim_tokens.ensures.kept c.trim_tokens.ensures.faulty

pub returns-clause-first : goal.returns-clause-first
returns-clause-first c =
    keeps-first c.args.bytes.now (λ kept. kept.items) c.trim_tokens.result c.trim_tokens.ensures.kept c.trim_tokens.ensures.faulty
