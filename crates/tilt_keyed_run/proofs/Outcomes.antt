-- What is known of results.
use Rattle.std.proofs.Common.{Bool, Result, Ok, Err, OnOk}
use Rattle.tilt_keyed_run.specs.Halts.{FullBy}
use Rattle.tilt_keyed_run.specs.declared.halt.Halt.{Halt}

pub ok-into : {T E : Type 0} (result : Result T E) (A B : Type 0) → (A → B) → OnOk result A → OnOk result B
ok-into (Ok u) A B f a = f a
ok-into (Err e) A B f a = tt

pub full-into : {T : Type 0} (result : Result T Halt) (exceeds : Bool) (A B : Type 0) → (A → B) → FullBy result exceeds A → FullBy result exceeds B
full-into (Ok u) exceeds A B f a = a
full-into (Err e) exceeds A B f a = λ is. let q = a is in (q.0, f q.1)

pub both-ok : {T E : Type 0} (result : Result T E) (A B : Type 0) → OnOk result A → OnOk result B → OnOk result (A × B)
both-ok (Ok u) A B a b = (a, b)
both-ok (Err e) A B a b = tt
