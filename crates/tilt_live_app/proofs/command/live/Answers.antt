use Rattle.std.proofs.Common.{◌∙◌, ap, refl, sym}
use Rattle.std.specs.Global.{Vec}
use Rattle.std.specs.Prelude.{option_copied, option_map}
use Rattle.tilt_live_app.proofs.Ending.{words-lived}
use Rattle.tilt_live_cli.specs.Arguments.{choice_value, command_value}
use Rattle.tilt_live_app.specs.Lived.{checked, done, done_by_keys, done_in}
use Rattle.tilt_unit_report.specs.declared.bound.InputBound.{InputBound}
use Rattle.tilt_live_app.proofs.command.live.Goals as goal

pub returns-in-Err-clause-is : goal.returns-in-Err-clause-is
returns-in-Err-clause-is g c =
    rw (c.without_folder.ensures.status ∙ c.report_fault.ensures.status, c.without_folder.ensures.folder)
    (rw c.from.ensures (words-lived _ _ _ _ _ _ _ _ _ _ _ _ c.in-Err.fault c.in-Err.ensures.is refl (rw c.from.ensures at c.report_fault.ensures.line)))

pub returns-in-Some-clause-is : goal.returns-in-Some-clause-is
returns-in-Some-clause-is g c =
    rw (c.without_folder-in-Some.ensures.status, c.without_folder-in-Some.ensures.folder)
    (checked (command_value c.in-Ok.command) c.unwrap-scales.result.now c.in-Some.bounds.items c.in-Ok.ensures.is
    (sym c.units.ensures ∙ sym c.as_ref.ensures.value ∙ ap option_copied c.unwrap-scales.ensures)
    (ap (option_map (λ (bounds : Vec InputBound). bounds.items)) c.in-Some.is) c.check_query-status.ensures.rest.same_files
    (rw c.deref.ensures.value at c.check_query-status.ensures.is))

pub returns-in-Some-folder-clause-is : goal.returns-in-Some-folder-clause-is
returns-in-Some-folder-clause-is g c =
    done_in (command_value c.in-Ok.command) (choice_value c.in-Some-folder.choice) c.in-Ok.ensures.is
    (ap (option_map (λ (bounds : Vec InputBound). bounds.items)) c.in_default.is) (ap (option_map choice_value) c.in-Some-folder.is) c.obey_in.ensures.is

pub returns-in-None-clause-is : goal.returns-in-None-clause-is
returns-in-None-clause-is g c =
    rw (c.without_folder-in-None.ensures.status, c.without_folder-in-None.ensures.folder)
    (done (command_value c.in-Ok.command) c.in-Ok.ensures.is (ap (option_map (λ (bounds : Vec InputBound). bounds.items)) c.in_default.is)
    (ap (option_map choice_value) c.in_default-folder.is) c.in-None.is c.obey.ensures.is)

pub returns-clause-is : goal.returns-clause-is
returns-clause-is g c =
    rw (c.without_folder-in-Some-keys.ensures.status, c.without_folder-in-Some-keys.ensures.folder)
    (done_by_keys (command_value c.in-Ok.command) c.in-Some-keys.most c.in-Ok.ensures.is (ap (option_map (λ (bounds : Vec InputBound). bounds.items)) c.in_default.is)
    (ap (option_map choice_value) c.in_default-folder.is) c.in-Some-keys.is c.obey_by_keys.ensures.rest.same_files c.obey_by_keys.ensures.is)

pub obey_in-requires-clause-chosen : goal.obey_in-requires-clause-chosen
obey_in-requires-clause-chosen g c = ap (option_map choice_value) c.in-Some-folder.is

pub obey_in-requires-clause-table_lent : goal.obey_in-requires-clause-table_lent
obey_in-requires-clause-table_lent g c = λ zone named. c.requires.table_lent (command_value c.in-Ok.command) zone c.in-Ok.ensures.is named

pub obey-requires-clause-table_lent : goal.obey-requires-clause-table_lent
obey-requires-clause-table_lent g c = λ zone named. c.requires.table_lent (command_value c.in-Ok.command) zone c.in-Ok.ensures.is named

pub obey_by_keys-requires-clause-table_lent : goal.obey_by_keys-requires-clause-table_lent
obey_by_keys-requires-clause-table_lent g c = λ zone named. c.requires.table_lent (command_value c.in-Ok.command) zone c.in-Ok.ensures.is named
