-- Where a session ends, and under which name it saves its checkpoint.
use Rattle.std.specs.Prelude.{ℕ, List, Option, Some, None, ⊤}
use Rattle.tilt_session.specs.declared.cut.Cut.{Cut}
use Rattle.tilt_session.specs.declared.cut.Cut.TheVariants.{Upto, End}
use Rattle.tilt_load.specs.InputCuts.{RefusesCuts, cuts_by, faulty_cut}
use Rattle.tilt_report.specs.Report.{Reason}
use Rattle.tilt_commands.specs.declared.saved_cut.SavedCut.{SavedCut}
use Rattle.tilt_cli.specs.Upto.{IsUptoWithin, UptoValue, upto_of}

-- the cuts as the arguments give them, and the name under which the checkpoint there is saved
pub record SavedCutValue : Type 0 where
  pub upto : UptoValue
  pub save : List ℕ

-- the same, as bytes and numbers
abbrev pub saved_cut_of : SavedCut → SavedCutValue
saved_cut_of cut = record { upto = upto_of cut.upto.now; save = cut.save.now }

-- a session ends by cuts, or with the last row, and then nothing is saved
abbrev pub ending_of : Option SavedCut → Option SavedCutValue
ending_of None = None
ending_of (Some cut) = Some (saved_cut_of cut)

-- where it ends, for inputs of these names
abbrev pub cut_of : Option SavedCutValue → List (List ℕ) → Cut
cut_of None inputs = End
cut_of (Some cut) inputs = Upto (cuts_by cut.upto inputs)

-- the faulty name of its cuts, if there is one
abbrev pub faulty_end : Option SavedCutValue → List (List ℕ) → Option (List ℕ)
faulty_end None inputs = None
faulty_end (Some cut) inputs = faulty_cut inputs cut.upto

-- why its cuts are rejected
abbrev pub RefusesEnd : Option SavedCutValue → List (List ℕ) → Reason → Type 0
RefusesEnd None inputs why = ⊥
RefusesEnd (Some cut) inputs why = RefusesCuts inputs cut.upto why

-- its cuts lie between their bounds
abbrev pub IsEnding : Option SavedCutValue → Type 0
IsEnding None = ⊤
IsEnding (Some cut) = IsUptoWithin cut.upto
