use Rattle.tilt_unit_text.proofs.WholeTexts.{whole_text}
use Rattle.tilt_unit_text.proofs.law.whole_texts_keep_meaning.Goals as goal

pub returns : goal.returns
returns c = whole_text
