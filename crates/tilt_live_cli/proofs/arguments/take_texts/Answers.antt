use Rattle.std.proofs.Common.{◌∙◌, ap, codes, refl}
use Rattle.tilt_cli.specs.Options.{text_of}
use Rattle.tilt_live_cli.proofs.Settings.{scale-text}
use Rattle.tilt_cli.specs.Arguments.{arguments_of}
use Rattle.tilt_live_cli.proofs.arguments.take_texts.Goals as goal

pub returns-clause-scale : goal.returns-clause-scale
returns-clause-scale c =
    scale-text (arguments_of c.args.given.now).settings (arguments_of c.take_reading_texts-readings.new.given).settings c.take_reading_texts-readings.result _
    c.take_reading_texts-readings.ensures.texts c.take_reading_texts-readings.ensures.rows c.remove_text-scale.ensures.value

pub returns-clause-resume : goal.returns-clause-resume
returns-clause-resume c =
    c.remove_text-resume.ensures.value
    ∙ ap text_of (c.remove_text-scale.ensures.others (codes "--resume") refl ∙ c.take_reading_texts-readings.ensures.files.resume)

pub returns-clause-save : goal.returns-clause-save
returns-clause-save c =
    c.remove_text-save.ensures.value
    ∙ ap text_of (c.remove_text-resume.ensures.others (codes "--save") refl ∙ c.remove_text-scale.ensures.others (codes "--save") refl
    ∙ c.take_reading_texts-readings.ensures.files.save)

pub returns-clause-bounds : goal.returns-clause-bounds
returns-clause-bounds c =
    c.remove_text-bounds.ensures.value
    ∙ ap text_of (c.remove_text-folder.ensures.others (codes "--bounds") refl ∙ c.remove_text-save.ensures.others (codes "--bounds") refl
    ∙ c.remove_text-resume.ensures.others (codes "--bounds") refl ∙ c.remove_text-scale.ensures.others (codes "--bounds") refl
    ∙ c.take_reading_texts-readings.ensures.files.bounds)

pub returns-clause-folder : goal.returns-clause-folder
returns-clause-folder c =
    c.remove_text-folder.ensures.value
    ∙ ap text_of (c.remove_text-save.ensures.others (codes "--folder") refl ∙ c.remove_text-resume.ensures.others (codes "--folder") refl
    ∙ c.remove_text-scale.ensures.others (codes "--folder") refl ∙ c.take_reading_texts-readings.ensures.files.folder)
