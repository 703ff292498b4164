use Rattle.std.proofs.Common.{rules, ◌≡◌, ◌∙◌, length, Some, None, ap, sym, refl}
use Rattle.std.specs.List.{position}
use Rattle.std.specs.Str.{bytes_eq}
use Rattle.std.proofs.lemmas.List.Quantifiers.{position-Some}
use Rattle.std.proofs.lemmas.Option.{slice_get_read}
use Rattle.tilt_keyed_run.proofs.Alongs.{keys-many}
use Rattle.tilt_keyed_run.proofs.Indexes.{known-named, new-named, place-below, place-of}
use Rattle.tilt_keyed_run.proofs.Outcomes.{both-ok, full-into, ok-into}
use Rattle.tilt_keyed_run.proofs.Places.{own-found, own-new}
use Rattle.tilt_keyed_run.specs.Runs.{first_lines}
use Rattle.tilt_keyed_run.proofs.keyed_run.KeyedRun.take_own.Goals as goal

pub index_mut-one-requires : goal.index_mut-one-requires
index_mut-one-requires g c =
    let feed = c.requires.0 in
    let is = c.requires.1 in
    let ones = c.args.self.now.keys.items in
    let key = c.args.key.now in
    let found : position (λ o. bytes_eq o.key.items key) ones ≡ Some c.in-Some.place =
    sym (place-of g.R.KeyRun.is c.args.recipe.now ones feed.keys c.args.self.now.places key is.keys_are is.places_are) ∙ sym c.place_of.ensures ∙ c.in-Some.is in
    let below = place-below (λ o. bytes_eq o.key.items key) ones c.in-Some.place found in
    search rules

pub take_line-requires : goal.take_line-requires
take_line-requires g c =
    let feed = c.requires.0 in
    let is = c.requires.1 in
    let one = c.index_mut-one.result.now in
    let ones = c.args.self.now.keys.items in
    let key = c.args.key.now in
    let recipe = c.args.recipe.now in
    let found : position (λ o. bytes_eq o.key.items key) ones ≡ Some c.in-Some.place =
    sym (place-of g.R.KeyRun.is recipe ones feed.keys c.args.self.now.places key is.keys_are is.places_are) ∙ sym c.place_of.ensures ∙ c.in-Some.is in
    let below = (position-Some (λ o. bytes_eq o.key.items key) ones c.in-Some.place one found).0 in
    let at = slice_get_read ones (length ones) c.in-Some.place one refl below c.index_mut-one.ensures.value in
    let own = own-found g.R.KeyRun.is recipe (g.R.KeyRun.first recipe) (g.R.KeyRun.added recipe) (g.R.KeyRun.fault recipe) key feed.shared c.args.line.now ones feed.keys
    c.in-Some.place one is.keys_are found at (sym c.index_mut-one.ensures.value) in
    (recipe, own.feed, own.key_is)

pub returns-in_ok-take_line-in-Some-clause-is : goal.returns-in_ok-take_line-in-Some-clause-is
returns-in_ok-take_line-in-Some-clause-is g c feed is =
    let one = c.index_mut-one.result.now in
    let ones = c.args.self.now.keys.items in
    let key = c.args.key.now in
    let recipe = c.args.recipe.now in
    let found : position (λ o. bytes_eq o.key.items key) ones ≡ Some c.in-Some.place =
    sym (place-of g.R.KeyRun.is recipe ones feed.keys c.args.self.now.places key is.keys_are is.places_are) ∙ sym c.place_of.ensures ∙ c.in-Some.is in
    let below = (position-Some (λ o. bytes_eq o.key.items key) ones c.in-Some.place one found).0 in
    let at = slice_get_read ones (length ones) c.in-Some.place one refl below c.index_mut-one.ensures.value in
    let own = own-found g.R.KeyRun.is recipe (g.R.KeyRun.first recipe) (g.R.KeyRun.added recipe) (g.R.KeyRun.fault recipe) key feed.shared c.args.line.now ones feed.keys
    c.in-Some.place one is.keys_are found at (sym c.index_mut-one.ensures.value) in
    record {
      shared_is = is.shared_is;
      keys_are = own.later c.take_line.new.one (c.in_ok-take_line-in-Some.ensures.is recipe own.feed own.key_is);
      places_are = is.places_are ∙ sym (known-named key feed.shared c.args.line.now feed.keys own.known);
    }

pub returns-in_ok-take_line-in-Some-clause-output : goal.returns-in_ok-take_line-in-Some-clause-output
returns-in_ok-take_line-in-Some-clause-output g c feed is =
    let one = c.index_mut-one.result.now in
    let ones = c.args.self.now.keys.items in
    let key = c.args.key.now in
    let recipe = c.args.recipe.now in
    let found : position (λ o. bytes_eq o.key.items key) ones ≡ Some c.in-Some.place =
    sym (place-of g.R.KeyRun.is recipe ones feed.keys c.args.self.now.places key is.keys_are is.places_are) ∙ sym c.place_of.ensures ∙ c.in-Some.is in
    let below = (position-Some (λ o. bytes_eq o.key.items key) ones c.in-Some.place one found).0 in
    let at = slice_get_read ones (length ones) c.in-Some.place one refl below c.index_mut-one.ensures.value in
    let own = own-found g.R.KeyRun.is recipe (g.R.KeyRun.first recipe) (g.R.KeyRun.added recipe) (g.R.KeyRun.fault recipe) key feed.shared c.args.line.now ones feed.keys
    c.in-Some.place one is.keys_are found at (sym c.index_mut-one.ensures.value) in
    rw own.writes (c.in_ok-take_line-in-Some.ensures.output recipe own.feed own.key_is)

pub returns-in_ok-take_line-in-Some-clause-bad : goal.returns-in_ok-take_line-in-Some-clause-bad
returns-in_ok-take_line-in-Some-clause-bad g c feed is =
    let one = c.index_mut-one.result.now in
    let ones = c.args.self.now.keys.items in
    let key = c.args.key.now in
    let recipe = c.args.recipe.now in
    let found : position (λ o. bytes_eq o.key.items key) ones ≡ Some c.in-Some.place =
    sym (place-of g.R.KeyRun.is recipe ones feed.keys c.args.self.now.places key is.keys_are is.places_are) ∙ sym c.place_of.ensures ∙ c.in-Some.is in
    let below = (position-Some (λ o. bytes_eq o.key.items key) ones c.in-Some.place one found).0 in
    let at = slice_get_read ones (length ones) c.in-Some.place one refl below c.index_mut-one.ensures.value in
    let own = own-found g.R.KeyRun.is recipe (g.R.KeyRun.first recipe) (g.R.KeyRun.added recipe) (g.R.KeyRun.fault recipe) key feed.shared c.args.line.now ones feed.keys
    c.in-Some.place one is.keys_are found at (sym c.index_mut-one.ensures.value) in
    rw own.bad (c.in_ok-take_line-in-Some.ensures.bad recipe own.feed own.key_is)

pub returns-in_ok-take_line-in-Some-clause-full : goal.returns-in_ok-take_line-in-Some-clause-full
returns-in_ok-take_line-in-Some-clause-full g c feed is =
    let one = c.index_mut-one.result.now in
    let ones = c.args.self.now.keys.items in
    let key = c.args.key.now in
    let recipe = c.args.recipe.now in
    let found : position (λ o. bytes_eq o.key.items key) ones ≡ Some c.in-Some.place =
    sym (place-of g.R.KeyRun.is recipe ones feed.keys c.args.self.now.places key is.keys_are is.places_are) ∙ sym c.place_of.ensures ∙ c.in-Some.is in
    let below = (position-Some (λ o. bytes_eq o.key.items key) ones c.in-Some.place one found).0 in
    let at = slice_get_read ones (length ones) c.in-Some.place one refl below c.index_mut-one.ensures.value in
    let own = own-found g.R.KeyRun.is recipe (g.R.KeyRun.first recipe) (g.R.KeyRun.added recipe) (g.R.KeyRun.fault recipe) key feed.shared c.args.line.now ones feed.keys
    c.in-Some.place one is.keys_are found at (sym c.index_mut-one.ensures.value) in
    rw own.known refl

pub returns-in-None-clause-is : goal.returns-in-None-clause-is
returns-in-None-clause-is g c feed is =
    let ones = c.args.self.now.keys.items in
    let key = c.args.key.now in
    let recipe = c.args.recipe.now in
    let none : position (λ o. bytes_eq o.key.items key) ones ≡ None =
    sym (place-of g.R.KeyRun.is recipe ones feed.keys c.args.self.now.places key is.keys_are is.places_are) ∙ sym c.place_of.ensures ∙ c.in-None.is in
    let new = own-new g.R.KeyRun.is recipe (g.R.KeyRun.first recipe) (g.R.KeyRun.added recipe) (g.R.KeyRun.fault recipe) key feed.shared c.args.line.now ones feed.keys
    is.keys_are none in
    ok-into c.add_key.result _ _ (λ s. record {
      shared_is = ap (λ o. first_lines o) c.add_key.ensures.shared ∙ is.shared_is;
      keys_are = rw s.0.1 (new.later s.0.0 (rw is.shared_is at s.0.2));
      places_are = s.1 ∙ rw (is.places_are, new-named key feed.shared c.args.line.now feed.keys new.unknown) refl;
    }) (both-ok c.add_key.result _ _ c.add_key.ensures.is c.add_key.ensures.places)

pub returns-in-None-clause-output : goal.returns-in-None-clause-output
returns-in-None-clause-output g c feed is =
    let ones = c.args.self.now.keys.items in
    let key = c.args.key.now in
    let recipe = c.args.recipe.now in
    let none : position (λ o. bytes_eq o.key.items key) ones ≡ None =
    sym (place-of g.R.KeyRun.is recipe ones feed.keys c.args.self.now.places key is.keys_are is.places_are) ∙ sym c.place_of.ensures ∙ c.in-None.is in
    let new = own-new g.R.KeyRun.is recipe (g.R.KeyRun.first recipe) (g.R.KeyRun.added recipe) (g.R.KeyRun.fault recipe) key feed.shared c.args.line.now ones feed.keys
    is.keys_are none in
    rw new.writes (rw is.shared_is at c.add_key.ensures.output)

pub returns-in-None-clause-bad : goal.returns-in-None-clause-bad
returns-in-None-clause-bad g c feed is =
    let ones = c.args.self.now.keys.items in
    let key = c.args.key.now in
    let recipe = c.args.recipe.now in
    let none : position (λ o. bytes_eq o.key.items key) ones ≡ None =
    sym (place-of g.R.KeyRun.is recipe ones feed.keys c.args.self.now.places key is.keys_are is.places_are) ∙ sym c.place_of.ensures ∙ c.in-None.is in
    let new = own-new g.R.KeyRun.is recipe (g.R.KeyRun.first recipe) (g.R.KeyRun.added recipe) (g.R.KeyRun.fault recipe) key feed.shared c.args.line.now ones feed.keys
    is.keys_are none in
    rw new.bad (rw is.shared_is at c.add_key.ensures.bad)

pub returns-in-None-clause-full : goal.returns-in-None-clause-full
returns-in-None-clause-full g c feed is =
    let ones = c.args.self.now.keys.items in
    let key = c.args.key.now in
    let recipe = c.args.recipe.now in
    let none : position (λ o. bytes_eq o.key.items key) ones ≡ None =
    sym (place-of g.R.KeyRun.is recipe ones feed.keys c.args.self.now.places key is.keys_are is.places_are) ∙ sym c.place_of.ensures ∙ c.in-None.is in
    let new = own-new g.R.KeyRun.is recipe (g.R.KeyRun.first recipe) (g.R.KeyRun.added recipe) (g.R.KeyRun.fault recipe) key feed.shared c.args.line.now ones feed.keys
    is.keys_are none in
    let many = keys-many g.R.KeyRun.is recipe ones feed.keys is.keys_are in
    rw (new.unknown, ← many) (full-into c.add_key.result _ _ _ (λ same. record {
      shared_is = ap (λ o. first_lines o) c.add_key.ensures.shared ∙ is.shared_is;
      keys_are = rw same.0 is.keys_are;
      places_are = same.1 ∙ is.places_are;
    }) c.add_key.ensures.full)
