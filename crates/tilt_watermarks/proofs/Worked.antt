-- Worked examples of watermarks.
use Rattle.std.proofs.Common.{◌≡◌, pos, negsuc, List, [], ◌∷◌, Some, None, refl}
use Rattle.tilt_feed.specs.declared.event.Event.TheVariants.{Input, Finish}
use Rattle.tilt_feed.specs.declared.fault.EventFault.TheVariants.{Late}
use Rattle.tilt_feed.specs.declared.update.Update.TheVariants.{Row, Value, KnownUpTo}
use Rattle.tilt_feed_line.specs.declared.line.Line.{Line}
use Rattle.tilt_feed_line.specs.declared.line.Line.TheVariants.{Update, AllKnownUpTo}
use Rattle.tilt_feed_line.specs.declared.line.Line.TheVariants as line
use Rattle.tilt_watermarks.specs.Laws.{watermarked}
use Rattle.tilt_watermarks.specs.Steps.{held_count, line_fault}
use Rattle.tilt_watermarks.specs.declared.fault.TakeFault.TheVariants.{NotAllowed, Overlap, Ahead}
use Rattle.tilt_watermarks.specs.declared.options.Options.{Options}

-- two inputs, and `idle 10`: a row of the first up to 100, and two lines for all inputs
abbrev idle_ten : Options
idle_ten = record { idle = Some 10; ahead = None; lateness = None }

abbrev idle_lines : List Line
idle_lines = Update 0 (Row (pos 0) (pos 100) (Some (pos 5))) ∷ AllKnownUpTo (pos 50) ∷ AllKnownUpTo (pos 95) ∷ []

-- the second input, which is silent, follows at 90. The line for 50 says nothing new, and the one for 95 says something of the second input
pub silent-input : (watermarked idle_ten 2 idle_lines).events
    ≡ Input 0 (Row (pos 0) (pos 100) (Some (pos 5))) ∷ Input 1 (KnownUpTo (pos 90)) ∷ Input 1 (KnownUpTo (pos 95)) ∷ []
silent-input = refl

-- then a value of the second input at 94 is late, and one at 95 isn't
pub late-value : line_fault idle_ten (watermarked idle_ten 2 idle_lines).kept (Update 1 (Value (pos 94) (pos 7))) ≡ Some (NotAllowed Late)
late-value = refl

pub value-in-time : line_fault idle_ten (watermarked idle_ten 2 idle_lines).kept (Update 1 (Value (pos 95) (pos 7))) ≡ None
value-in-time = refl

-- with `ahead 20`: the first value, at 1000, gives the watermark 1001. The next line may start at 1021, and not at 1022
abbrev ahead_twenty : Options
ahead_twenty = record { idle = None; ahead = Some 20; lateness = None }

abbrev first_value : List Line
first_value = Update 0 (Value (pos 1000) (pos 7)) ∷ []

pub near-enough : line_fault ahead_twenty (watermarked ahead_twenty 2 first_value).kept (Update 1 (Value (pos 1021) (pos 7))) ≡ None
near-enough = refl

pub too-far : line_fault ahead_twenty (watermarked ahead_twenty 2 first_value).kept (Update 1 (Value (pos 1022) (pos 7))) ≡ Some Ahead
too-far = refl

-- with `lateness 10`: values from 5 and 3, and then one from 16, which gives the watermark 7. The first two are handed on in order of their
-- starts, the third one is held, and the end hands it on
abbrev late_ten : Options
late_ten = record { idle = None; ahead = None; lateness = Some 10 }

abbrev out_of_order : List Line
out_of_order = Update 0 (Value (pos 5) (pos 1)) ∷ Update 0 (Value (pos 3) (pos 2)) ∷ Update 0 (Value (pos 16) (pos 3)) ∷ []

pub handed-in-order : (watermarked late_ten 1 (Update 0 (Value (pos 5) (pos 1)) ∷ Update 0 (Value (pos 3) (pos 2)) ∷ Update 0 (Value (pos 16) (pos 3)) ∷ line.Finish ∷ [])).events
    ≡ Input 0 (KnownUpTo (negsuc 3)) ∷ Input 0 (Value (pos 3) (pos 2)) ∷ Input 0 (Value (pos 5) (pos 1)) ∷ Input 0 (KnownUpTo (pos 7))
    ∷ Input 0 (Value (pos 16) (pos 3)) ∷ Finish ∷ []
handed-in-order = refl

pub one-is-held : held_count (watermarked late_ten 1 out_of_order).kept.inputs ≡ 1
one-is-held = refl

-- then a value from 6 is late, and one from 7 isn't. A row that reaches beyond 16 overlaps the value there, and so does another value from
-- 16; a row up to 16 doesn't
pub below-is-late : line_fault late_ten (watermarked late_ten 1 out_of_order).kept (Update 0 (Value (pos 6) (pos 9))) ≡ Some (NotAllowed Late)
below-is-late = refl

pub from-seven : line_fault late_ten (watermarked late_ten 1 out_of_order).kept (Update 0 (Value (pos 7) (pos 9))) ≡ None
from-seven = refl

pub beyond-overlaps : line_fault late_ten (watermarked late_ten 1 out_of_order).kept (Update 0 (Row (pos 8) (pos 17) (Some (pos 9)))) ≡ Some Overlap
beyond-overlaps = refl

pub same-start-overlaps : line_fault late_ten (watermarked late_ten 1 out_of_order).kept (Update 0 (Value (pos 16) (pos 9))) ≡ Some Overlap
same-start-overlaps = refl

pub up-to-it : line_fault late_ten (watermarked late_ten 1 out_of_order).kept (Update 0 (Row (pos 8) (pos 16) (Some (pos 9)))) ≡ None
up-to-it = refl

-- "known up to" doesn't wait: it hands on what starts below it
pub known-at-once : (watermarked late_ten 1 (Update 0 (Row (pos 0) (pos 5) (Some (pos 1))) ∷ Update 0 (KnownUpTo (pos 3)) ∷ [])).events
    ≡ Input 0 (KnownUpTo (negsuc 4)) ∷ Input 0 (Row (pos 0) (pos 5) (Some (pos 1))) ∷ []
known-at-once = refl

-- with `idle 5` and `lateness 10`: a row of the first input up to 100 gives it the watermark 90, so the second one follows at 85
pub idle-after-lateness : (watermarked (record { idle = Some 5; ahead = None; lateness = Some 10 }) 2 (Update 0 (Row (pos 80) (pos 100) (Some (pos 5))) ∷ [])).events
    ≡ Input 0 (Row (pos 80) (pos 100) (Some (pos 5))) ∷ Input 1 (KnownUpTo (pos 85)) ∷ []
idle-after-lateness = refl
