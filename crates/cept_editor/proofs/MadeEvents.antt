-- Events that were made one after the other.
use Rattle.std.proofs.Common.{◌≡◌, ℕ, ◌≤◌, List, [], ◌∷◌, ◌++◌, take, Ok, Err, refl, sym, ap, ◌∙◌, subst}
use Rattle.std.proofs.Common.{append_assoc, append-nil, arith}
use Rattle.std.specs.Prelude.{Bool, if◌then◌else◌, Result, OnOk, OnErr}
use Rattle.std.proofs.lemmas.Grind.{flat_map-append}
use Rattle.cept_outside.specs.Causes.{Rose}
use Rattle.cept_outside.specs.SinkState.{Gains, GainsPart}
use Rattle.cept_outside.proofs.Laws.{Gains-nil, Gains-append}
use Rattle.cept_codes.specs.declared.command.Command.{Command}
use Rattle.cept_codes.specs.declared.look.Look.{Look}
use Rattle.cept_codes.specs.Place.{Place}
use Rattle.cept_codes.proofs.Laws.{IsTable-table}
use Rattle.cept_profile.proofs.Laws.{grid_with_paints-append, changes_between-same, grid_with_paints-changes_between}
use Rattle.cept_profile.specs.Changes.{changes_between, grid_with_paints}
use Rattle.cept_profile.specs.Look.{grid, look}
use Rattle.cept_profile.specs.State.{core}
use Rattle.cept_repaint.specs.GlassState.{GlassState, Lists}
use Rattle.cept_report.specs.Text.{nothing_line}
use Rattle.cept_editor.specs.Events.{Event, still_event, event_changes, report, paints}
use Rattle.cept_editor.specs.Made.{Output, AreStill, ArePainted, IsMade, AreMade, AreCutOff}

-- an undo or a redo that finds nothing
abbrev pub nothing_event : Bool → ℕ → List Command → Event
nothing_event listed line commands = still_event commands (if listed then nothing_line line else [])

-- ---- texts and changes in order

pub report-append : (xs ys : List Event) → report (xs ++ ys) ≡ report xs ++ report ys
unfolding report
report-append xs ys = flat_map-append (λ (e : Event). e.text) xs ys

pub report-one : (e : Event) → report (e ∷ []) ≡ e.text
unfolding report
report-one e = append-nil e.text

pub report-none : report [] ≡ []
unfolding report
report-none = refl

pub paints-append : (xs ys : List Event) → paints (xs ++ ys) ≡ paints xs ++ paints ys
unfolding paints
paints-append xs ys = flat_map-append event_changes xs ys

pub paints-one : (e : Event) → paints (e ∷ []) ≡ event_changes e
unfolding paints
paints-one e = append-nil (event_changes e)

pub paints-none : paints [] ≡ []
unfolding paints
paints-none = refl

-- ---- paints

pub no_paint : (g : List (List Look)) → grid_with_paints g [] ≡ g
unfolding grid_with_paints
no_paint g = refl

Lists-none : (paints : List (Place × Look)) (g : GlassState) → paints ≡ [] → Lists g.paints paints g.paints
Lists-none paints g none = record {
  told = λ now is. (now, is, sym (append-nil now) ∙ ap (λ l. now ++ l) (sym none));
}

Lists-more : (a b c : GlassState) (xs ys all : List (Place × Look)) → all ≡ xs ++ ys → Lists a.paints xs b.paints
    → Lists b.paints ys c.paints → Lists a.paints all c.paints
Lists-more a b c xs ys all is first second = record {
  told = λ now e.
      let mid = second.told now e in
      let old = first.told mid.0 mid.1 in (
        old.0,
        old.1,
        mid.2 ∙ ap (λ l. l ++ ys) old.2 ∙ append_assoc old.0 xs ys ∙ ap (λ l. old.0 ++ l) (sym is),
      );
}

-- events that paint nothing leave the glass
unpainted : (events : List Event) (g : GlassState) → paints events ≡ [] → ArePainted events g g
unpainted events g none = record {
  listed = Lists-none (paints events) g none;
  over = sym (no_paint g.grid) ∙ ap (grid_with_paints g.grid) (sym none);
  untouched = λ still. refl;
}

pub ArePainted-none : (g : GlassState) → ArePainted [] g g
ArePainted-none g = unpainted [] g paints-none

-- an event that changes nothing leaves the glass
pub ArePainted-still : (e : Event) (g : GlassState) → e.after ≡ e.before → ArePainted (e ∷ []) g g
ArePainted-still e g still = unpainted (e ∷ []) g
    (paints-one e ∙ ap (λ h. changes_between (grid e.before) (grid h)) still ∙ changes_between-same (grid e.before))

still_front : (xs ys : List Event) → AreStill (xs ++ ys) → AreStill xs × AreStill ys
still_front [] ys still = (tt, still)
still_front (x ∷ xs) ys still = ((still.0, (still_front xs ys still.1).0), (still_front xs ys still.1).1)

pub still_append : (xs ys : List Event) → AreStill xs → AreStill ys → AreStill (xs ++ ys)
still_append [] ys first second = second
still_append (x ∷ xs) ys first second = (first.0, still_append xs ys first.1 second)

pub ArePainted-more : (xs ys : List Event) (a b c : GlassState) → ArePainted xs a b → ArePainted ys b c
    → ArePainted (xs ++ ys) a c
ArePainted-more xs ys a b c first second = record {
  listed = Lists-more a b c (paints xs) (paints ys) (paints (xs ++ ys)) (paints-append xs ys) first.listed
      second.listed;
  over = second.over ∙ ap (λ g. grid_with_paints g (paints ys)) first.over
      ∙ sym (grid_with_paints-append a.grid (paints xs) (paints ys))
      ∙ ap (grid_with_paints a.grid) (sym (paints-append xs ys));
  untouched = λ still.
      let parts = still_front xs ys still in
      second.untouched parts.1 ∙ first.untouched parts.0;
}

-- ---- texts and paints

pub AreMade-none : (o : Output) → AreMade [] o o
AreMade-none o = record {
  put = subst (λ (t : List ℕ). Gains o.sink t o.sink) (sym report-none) (Gains-nil o.sink);
  painted = ArePainted-none o.glass;
}

-- one event more was made
pub AreMade-more : {X E : Type 0} {x : X} (es : List Event) (e : Event) (a b c : Output) → AreMade es a b
    → IsMade {E = E} e b (Ok x) c → AreMade (es ++ e ∷ []) a c
AreMade-more es e a b c made now = record {
  put = subst (λ (t : List ℕ). Gains a.sink t c.sink)
      (ap (λ t. report es ++ t) (sym (report-one e)) ∙ sym (report-append es (e ∷ [])))
      (Gains-append a.sink b.sink c.sink (report es) e.text made.put now.puts.whole);
  painted = ArePainted-more es (e ∷ []) a.glass b.glass c.glass made.painted now.painted;
}

-- the sink failed at one more
pub AreCutOff-here : {X E : Type 0} {f : E} (es : List Event) (e : Event) (a b c : Output) → AreMade es a b
    → b.sink.faults ≡ a.sink.faults → IsMade {X = X} e b (Err f) c → AreCutOff (es ++ e ∷ []) a c
AreCutOff-here es e a b c made stays now =
    let part = now.puts.part in
    record {
      done = es;
      cut = e;
      rest = [];
      split = refl;
      size = part.size;
      short = part.short;
      put = Gains-append a.sink b.sink c.sink (report es) (take part.size e.text) made.put part.gains;
      painted = ArePainted-more es (e ∷ []) a.glass b.glass c.glass made.painted now.painted;
      cause = subst (λ n. Rose n c.sink.faults) stays now.puts.cause.failed;
      later = omega (arith, stays, now.puts.cause.later);
    }

-- what is cut off is cut off of more events
pub AreCutOff-longer : (es more all : List Event) (a c : Output) → all ≡ es ++ more → AreCutOff es a c
    → AreCutOff all a c
AreCutOff-longer es more all a c is off = record {
  done = off.done;
  cut = off.cut;
  rest = off.rest ++ more;
  split = is ∙ ap (λ l. l ++ more) off.split ∙ append_assoc off.done (off.cut ∷ off.rest) more;
  size = off.size;
  short = off.short;
  put = off.put;
  painted = off.painted;
  cause = off.cause;
  later = off.later;
}

-- where no event changes which commands remain, the glass wasn't touched
pub cut_untouched : (es : List Event) (a c : Output) → AreStill es → AreCutOff es a c → c.glass ≡ a.glass
cut_untouched es a c still off =
    let parts = still_front off.done (off.cut ∷ off.rest) (subst AreStill off.split still) in
    off.painted.untouched (still_append off.done (off.cut ∷ []) parts.0 (parts.1.0, tt))

-- events that were made one after the other
pub AreMade-append : (xs ys : List Event) (a b c : Output) → AreMade xs a b → AreMade ys b c → AreMade (xs ++ ys) a c
AreMade-append xs ys a b c first second = record {
  put = subst (λ (t : List ℕ). Gains a.sink t c.sink) (sym (report-append xs ys))
      (Gains-append a.sink b.sink c.sink (report xs) (report ys) first.put second.put);
  painted = ArePainted-more xs ys a.glass b.glass c.glass first.painted second.painted;
}

-- the sink failed at one of the later ones
pub AreCutOff-after : (xs ys : List Event) (a b c : Output) → AreMade xs a b → b.sink.faults ≡ a.sink.faults
    → AreCutOff ys b c → AreCutOff (xs ++ ys) a c
AreCutOff-after xs ys a b c made stays off = record {
  done = xs ++ off.done;
  cut = off.cut;
  rest = off.rest;
  split = ap (λ l. xs ++ l) off.split ∙ sym (append_assoc xs off.done (off.cut ∷ off.rest));
  size = off.size;
  short = off.short;
  put = subst (λ (t : List ℕ). Gains a.sink t c.sink)
      (sym (append_assoc (report xs) (report off.done) (take off.size off.cut.text))
      ∙ ap (λ t. t ++ take off.size off.cut.text) (sym (report-append xs off.done)))
      (Gains-append a.sink b.sink c.sink (report xs) (report off.done ++ take off.size off.cut.text) made.put off.put);
  painted = subst (λ es. ArePainted es a.glass c.glass) (sym (append_assoc xs off.done (off.cut ∷ [])))
      (ArePainted-more xs (off.done ++ off.cut ∷ []) a.glass b.glass c.glass made.painted off.painted);
  cause = subst (λ n. Rose n c.sink.faults) stays off.cause;
  later = omega (arith, stays, off.later);
}

-- whatever one more event answers
pub one_more_made : {X E : Type 0} (es : List Event) (e : Event) (a b c : Output) (r : Result X E)
    → AreMade es a b → IsMade e b r c → OnOk r (AreMade (es ++ e ∷ []) a c)
one_more_made es e a b c (Ok y) made now = AreMade-more es e a b c made now
one_more_made es e a b c (Err f) made now = tt

pub one_more_cut : {X E : Type 0} (es : List Event) (e : Event) (a b c : Output) (r : Result X E)
    → AreMade es a b → b.sink.faults ≡ a.sink.faults → IsMade e b r c → OnErr r (AreCutOff (es ++ e ∷ []) a c)
one_more_cut es e a b c (Ok y) made stays now = tt
one_more_cut es e a b c (Err f) made stays now = AreCutOff-here es e a b c made stays now

-- ---- the end

-- the text of the end was put too, where the glass was left as it was
pub AreMade-end : (es : List Event) (e : Event) (a b c : Output) → AreMade es a b → e.after ≡ e.before
    → Gains b.sink e.text c.sink → c.glass ≡ b.glass → AreMade (es ++ e ∷ []) a c
AreMade-end es e a b c made still gains same = record {
  put = subst (λ (t : List ℕ). Gains a.sink t c.sink)
      (ap (λ t. report es ++ t) (sym (report-one e)) ∙ sym (report-append es (e ∷ [])))
      (Gains-append a.sink b.sink c.sink (report es) e.text made.put gains);
  painted = subst (λ (g : GlassState). ArePainted (es ++ e ∷ []) a.glass g) (sym same)
      (ArePainted-more es (e ∷ []) a.glass b.glass b.glass made.painted (ArePainted-still e b.glass still));
}

-- or a part of it, and the sink failed
pub AreCutOff-end : (es : List Event) (e : Event) (a b c : Output) → AreMade es a b → b.sink.faults ≡ a.sink.faults
    → e.after ≡ e.before → GainsPart b.sink e.text c.sink → Rose b.sink.faults c.sink.faults
    → b.sink.faults ≤ c.sink.faults → c.glass ≡ b.glass → AreCutOff (es ++ e ∷ []) a c
AreCutOff-end es e a b c made stays still part rose later same = record {
  done = es;
  cut = e;
  rest = [];
  split = refl;
  size = part.size;
  short = part.short;
  put = Gains-append a.sink b.sink c.sink (report es) (take part.size e.text) made.put part.gains;
  painted = subst (λ (g : GlassState). ArePainted (es ++ e ∷ []) a.glass g) (sym same)
      (ArePainted-more es (e ∷ []) a.glass b.glass b.glass made.painted (ArePainted-still e b.glass still));
  cause = subst (λ n. Rose n c.sink.faults) stays rose;
  later = omega (arith, stays, later);
}

-- what an event changes, painted over the grid before it, gives the grid after it
pub event_shown : (e : Event) → grid_with_paints (grid e.before) (event_changes e) ≡ grid e.after
event_shown e = grid_with_paints-changes_between (grid e.before) (grid e.after) (IsTable-table (look (core e.before)))
    (IsTable-table (look (core e.after)))
