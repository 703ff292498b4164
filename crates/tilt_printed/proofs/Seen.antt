-- The state of the watchers after writes.
use Rattle.std.proofs.Common.{◌≡◌, ◌++◌, ◌∙◌, List, [], ◌∷◌, ℕ, length, length-append, Option, None, Some, refl, sym, ap, subst, append_assoc, codes, arith}
use Rattle.std.proofs.lemmas.List.{append-nil}
use Rattle.tilt_outside.specs.Written.{AppendsFront}
use Rattle.tilt_printed.proofs.Rows.{lines-rows, shorter_none}
use Rattle.tilt_printed.specs.Figures.{figures_after, watched_text}
use Rattle.tilt_printed.specs.Left.{Left}
use Rattle.tilt_printed.specs.Show.{HaveSeen, HaveSeenInPart, HaveSeenLines, SeeAll, SeePart}
use Rattle.tilt_printed.specs.Stopped.{StandsInLines, StandsWhereStopped, in_line, after_header, before_header, in_header}
use Rattle.tilt_printed.specs.declared.unput.Unput.{Unput}
use Rattle.tilt_printed.specs.declared.unput.Unput.TheVariants.{Failed, OutOfMemory}
use Rattle.tilt_stream.specs.Snap.{Snapshot}
use Rattle.tilt_stream.specs.Text.{lines_of, text_of}
use Rattle.tilt_watch.proofs.PlacesAfter.{left-none}
use Rattle.tilt_watch.specs.Places.{left_after}
use Rattle.tilt_watch.specs.Watch.{rows_of}

-- a text, and more after it, by the lines of its rows
text_rows : (old more : List ℕ) (list : List Snapshot) → old ++ (text_of list ++ more) ≡ (old ++ codes "start,end,value\n") ++ (lines_of (rows_of list) ++ more)
text_rows old more list =
    ap (λ (l : List ℕ). old ++ l) (append_assoc (codes "start,end,value\n") (lines_of list) more)
    ∙ sym (append_assoc old (codes "start,end,value\n") (lines_of list ++ more))
    ∙ ap (λ (l : List ℕ). (old ++ codes "start,end,value\n") ++ (l ++ more)) (sym (lines-rows list))

module _ (left : Left) (list : List Snapshot) where
  -- all was written, and the flush failed
  flush_failed : HaveSeen left list → HaveSeenInPart Failed left list
  flush_failed all = record {
    seen = rows_of list;
    others = [];
    rows = sym (append-nil (rows_of list));
    saw = all.saw;
    front = λ t. record {
      front = watched_text left.before list;
      rest = [];
      parts = sym (append-nil (watched_text left.before list));
      appended = all.written t;
    };
    stopped = λ t. after_header (in_line (figures_after left.before list) tt (all.written t ∙ text_rows left.old (figures_after left.before list) list));
  }

  -- there was no memory for the places of the watchers
  pub no_panel : (why : Unput) → why ≡ OutOfMemory → left.now ≡ left.before → (left.tells → left.new ≡ left.old) → HaveSeenInPart why left list
  no_panel why is same nothing = record {
    seen = [];
    others = rows_of list;
    rows = refl;
    saw = same ∙ sym (left-none left.before);
    front = λ t. record { front = []; rest = watched_text left.before list; parts = refl; appended = nothing t ∙ sym (append-nil left.old) };
    stopped = λ t. before_header is refl (nothing t);
  }

  header_cut : (why : Unput) → why ≡ Failed → (part rest : List ℕ) → codes "start,end,value\n" ≡ part ++ rest → left.new ≡ left.old ++ part
      → StandsWhereStopped why [] (rows_of list) left.old left.new
  header_cut why is part [] parts new = after_header (subst (StandsInLines [] (rows_of list) (left.old ++ codes "start,end,value\n") left.new) (sym is)
      (in_line [] (shorter_none (rows_of list)) (new ∙ ap (λ (l : List ℕ). left.old ++ l) (sym (append-nil part) ∙ sym parts) ∙ sym (append-nil (left.old ++ codes "start,end,value\n")))))
  header_cut why is part (b ∷ bs) parts new =
      let both = ap length parts ∙ length-append part (b ∷ bs) in in_header part is (omega (arith, both)) refl new

  -- the write of the header failed
  pub no_header : (why : Unput) → why ≡ Failed → left.now ≡ left.before → (left.tells → AppendsFront left.old left.new (codes "start,end,value\n"))
      → (left.tells → AppendsFront left.old left.new (watched_text left.before list)) → HaveSeenInPart why left list
  no_header why is same cut front = record {
    seen = [];
    others = rows_of list;
    rows = refl;
    saw = same ∙ sym (left-none left.before);
    front = front;
    stopped = λ t. let c = cut t in header_cut why is c.front c.rest c.parts c.appended;
  }

  -- not all lines were written after the header
  pub not_all_lines : (why : Unput) (mid : List ℕ) → (left.tells → mid ≡ left.old ++ codes "start,end,value\n") → HaveSeenLines why (record left { old = mid }) list
      → (left.tells → AppendsFront left.old left.new (watched_text left.before list)) → HaveSeenInPart why left list
  not_all_lines why mid header lines front = record {
    seen = lines.seen;
    others = lines.others;
    rows = lines.rows;
    saw = lines.saw;
    front = front;
    stopped = λ t. after_header (subst (λ (m : List ℕ). StandsInLines lines.seen lines.others m left.new why) (header t) (lines.stopped t));
  }

  -- the write of the figures failed
  pub no_figures : (why : Unput) → why ≡ Failed → (mid : List ℕ) → left.now ≡ left_after left.before (rows_of list) → (left.tells → mid ≡ left.old ++ text_of list)
      → (figures : List ℕ) → (left.tells → AppendsFront mid left.new figures) → (left.tells → AppendsFront left.old left.new (watched_text left.before list))
      → HaveSeenInPart why left list
  no_figures why is mid saw text figures cut front = record {
    seen = rows_of list;
    others = [];
    rows = sym (append-nil (rows_of list));
    saw = saw;
    front = front;
    stopped = λ t.
        let c = cut t in
        after_header (subst (StandsInLines (rows_of list) [] (left.old ++ codes "start,end,value\n") left.new) (sym is)
        (in_line c.front tt
        (c.appended ∙ ap (λ (l : List ℕ). l ++ c.front) (text t) ∙ append_assoc left.old (text_of list) c.front ∙ text_rows left.old c.front list)));
  }

-- a flush that failed leaves a part
pub see_part : (left : Left) (new : List ℕ) (shown : Option (List Snapshot)) → new ≡ left.new → SeeAll left shown → SeePart Failed (record left { new = new }) shown
see_part left new None same all = all
see_part left new (Some list) same all = rw same (flush_failed left list all)
