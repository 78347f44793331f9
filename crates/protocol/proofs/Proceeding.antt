-- A process that runs an operation in a sound machine can make its next line, and so ends it alone.
use Rattle.std.proofs.Common.{◌≡◌, ℕ, zero, suc, ◌<◌, ◌≤◌, ◌⊎◌, List, sym, refl, ap, ◌∙◌, subst, inl, inr, arith}
use mathlib.Core.Option.{Option, some, none}
use native.Mathlib.Decide.{ℕ_discrete}
use Rattle.memory.specs.declared.cell.Cell.{Cell}
use Rattle.memory.specs.declared.cell.Cell.TheVariants.{Value, Id}
use Rattle.memory.specs.declared.cell.TaggedId.{TaggedId}
use Rattle.protocol.specs.World.{World, id_cell, changed}
use Rattle.protocol.specs.Events.{Event}
use Rattle.protocol.specs.Operations.{Request}
use Rattle.protocol.specs.Phases.{ReadPhase, Rows, Job, place_of, Purpose, Phase, Process, Meets, with_id_second, phase_request, asked}
use Rattle.protocol.specs.Phases.ReadPhase.{looks, looks_again, fetches, resets}
use Rattle.protocol.specs.Phases.Job.{for_ll, for_kcss}
use Rattle.protocol.specs.Phases.Purpose.{solo, inside}
use Rattle.protocol.specs.Phases.Phase.{resting, reading, attempt, attempt_again, linking, to_save, to_mark, to_note}
use Rattle.protocol.specs.Phases.Phase.{swap_sc, first_id, first_collect, second_collect, second_id, swap}
use Rattle.protocol.specs.Phases.Process.{proc}
use Rattle.protocol.specs.Lines.{Line, ReadLine}
use Rattle.protocol.specs.Lines.ReadTurn.{on, got}
use Rattle.protocol.specs.Lines.ReadLine.{line_13_value, line_13_id, line_1_value, line_1_id, line_3a, line_3b_yes, line_3b_no}
use Rattle.protocol.specs.Lines.Line.{read_on, read_got, attempt_value, attempt_id, again_value, again_id, link_on, link_got, line_7, line_8_yes, line_8_no}
use Rattle.protocol.specs.Lines.Line.{line_9_ll, line_9_one, line_9_more, sc_yes, sc_no, s6_on, s6_end, c1_on, c1_got, c1_end, c2_on, c2_got, c2_end, s9_on}
use Rattle.protocol.specs.Lines.Line.{s9_again, s9_solo, s9_inside, kcss_one, kcss_yes, kcss_retry, kcss_first, kcss_first_gone, kcss_other, kcss_other_gone}
use Rattle.protocol.specs.Runs.{Machine, world, Given, Begun, turned}
use Rattle.protocol.specs.Solo.{bound, PhaseFits, Fits, Remaining, AloneTo}
use Rattle.protocol.specs.Solo.AloneTo.{no_line, then_starts, then_line}
use Rattle.protocol.specs.Going.{CanStep}
use Rattle.protocol.specs.Sound.{CellsSound, ReadSound, PhaseSound, ProcessSound, Sound, EndsWithin, GoesOn}
use Rattle.protocol.specs.Unaided.{FinishesAlone, AlwaysGoesOn}
use Rattle.protocol.proofs.Alone.{bounds}
use Rattle.protocol.proofs.Changes.{clash, changed_here}
use Rattle.protocol.proofs.Fitting.{asked_bounds}
use Rattle.protocol.proofs.Sounding.{stays_sound}
use Rattle.protocol.proofs.Turning.{begun_same}
use Rattle.protocol.proofs.Asking.{keeps}
use Rattle.protocol.proofs.Starting.{still_runs}

below_or : (a b : ℕ) → (a < b) ⊎ (b ≤ a)
below_or a zero = inr (omega arith)
below_or zero (suc b) = inl (omega arith)
below_or (suc a) (suc b) = elim (below_or a b) [ inl h ↦ inl (omega arith) | inr h ↦ inr (omega arith) ]

-- all below k, or one that is not
all_or : (P : ℕ → Type 0) → ((j : ℕ) → Dec (P j)) → (k : ℕ) → ((j : ℕ) → j < k → P j) ⊎ ((j : ℕ) × (j < k) × (P j → ⊥))
all_or P d zero = inl (λ j l. absurd (omega arith))
all_or P d (suc k) =
    elim (all_or P d k) [
      | inr h ↦ inr (h.0, (let l = h.1 in omega arith), h.2)
      | inl h ↦
          elim (d k) [
            | no n ↦ inr (k, omega arith, n)
            | yes y ↦ inl (λ j l. elim (ℕ_discrete j k) [ yes e ↦ subst P (sym e) y | no n ↦ h j (omega arith) ])
          ]
    ]

both : {P Q : Type 0} → Dec P → Dec Q → Dec (P × Q)
both (no e) f = no (λ h. e h.0)
both (yes e) (no f) = no (λ h. f h.1)
both (yes e) (yes f) = yes (e, f)

module _ {V : Type 0} (d : Discrete V) where
  same_cell : (c c' : Cell V) → Dec (c ≡ c')
  same_cell (Value x) (Value y) = elim (d x y) [ yes e ↦ yes (ap Value e) | no n ↦ no (λ h. n (cc)) ]
  same_cell (Value x) (Id k) = no (λ h. clash (cc))
  same_cell (Id k) (Value y) = no (λ h. clash (cc))
  same_cell (Id k) (Id j) =
      elim (both (ℕ_discrete k.process j.process) (ℕ_discrete k.tag j.tag)) [
        | yes e ↦ yes (ap (λ (x : ℕ). id_cell x k.tag) e.0 ∙ ap (id_cell j.process) e.1)
        | no n ↦ no (λ h. n (let i : k ≡ j = cc in (ap (λ (x : TaggedId). x.process) i, ap (λ (x : TaggedId). x.tag) i)))
      ]

  module _ (t p : ℕ) (w : World V) where
    -- what a val holds
    holds : (a : ℕ) → ((v : V) × (w.val a ≡ Value v)) ⊎ ((k : TaggedId) × (w.val a ≡ Id k))
    holds a = go (w.val a) refl
      where
        go : (c : Cell V) → w.val a ≡ c → ((v : V) × (w.val a ≡ Value v)) ⊎ ((k : TaggedId) × (w.val a ≡ Id k))
        go (Value v) e = inl (v, e)
        go (Id k) e = inr (k, e)

    abbrev Turns : ℕ → ReadPhase V → Type 0
    Turns a s = ((e : Event V) × (s' : ReadPhase V) × ReadLine w p a s e (on s')) ⊎ ((e : Event V) × (v : V) × ReadLine w p a s e (got v))

    turns : (a : ℕ) (s : ReadPhase V) → ReadSound w.saved s → Turns a s
    turns a looks h = elim (holds a) [ inl x ↦ inr (_, _, line_13_value x.0 x.1) | inr x ↦ inl (_, _, line_13_id x.0 x.1) ]
    turns a looks_again h = elim (holds a) [ inl x ↦ inl (_, _, line_1_value x.0 x.1) | inr x ↦ inl (_, _, line_1_id x.0 x.1) ]
    turns a (fetches k) (v, e) = inl (_, _, line_3a k v e)
    turns a (resets k v) h =
        elim (same_cell (w.val a) (Id k)) [ yes e ↦ inl (_, _, line_3b_yes k v e) | no n ↦ inl (_, _, line_3b_no k v n) ]

    free : (n b : ℕ) (l : Option ℕ) (ph : Phase V) → l ≡ none → CanStep t p w (proc n none b ph) → CanStep t p w (proc n l b ph)
    free n b l ph e g = subst (λ (x : Option ℕ). CanStep t p w (proc n x b ph)) (sym e) g

    -- after the last S9
    ends_9 : (n b : ℕ) (l : Option ℕ) (F : Purpose V) (rows : Rows V) (k f i : ℕ) → k ≤ suc i → CanStep t p w (proc n l b (second_id F rows k f i))
    ends_9 n b l F rows k f i y = go F (all_or P (λ j. both (same_cell (new j).id_first (new j).id_second) (d (new j).first (new j).second)) k)
      where
        new : Rows V
        new = changed rows i (with_id_second (rows i) (w.tid (rows i).location))

        P : ℕ → Type 0
        P j = ((new j).id_first ≡ (new j).id_second) × ((new j).first ≡ (new j).second)

        go : (F : Purpose V) → ((j : ℕ) → j < k → P j) ⊎ ((j : ℕ) × (j < k) × (P j → ⊥)) → CanStep t p w (proc n l b (second_id F rows k f i))
        go F (inr x) = (_, _, _, s9_again {rows' = new} y refl (λ s. x.2 (s x.0 x.1)))
        go solo (inl s) = (_, _, _, s9_solo {rows' = new} y refl s)
        go (inside a x u v t8) (inl s) = (_, _, _, s9_inside {rows' = new} y refl s)

    -- 11 of a KCSS
    swaps : (n b a : ℕ) (x u v : V) (t8 : ℕ) (rows : Rows V) (k f : ℕ) → Dec (v ≡ x) → Dec (w.val a ≡ id_cell p n)
        → Meets rows k ⊎ ((j : ℕ) × (j < k) × ((rows j).first ≡ (rows j).expected → ⊥)) → CanStep t p w (proc n none b (swap a x u v t8 rows k f))
    swaps n b a x u v t8 rows k f (no q) (yes m) c = (_, _, _, kcss_first q m)
    swaps n b a x u v t8 rows k f (no q) (no m) c = (_, _, _, kcss_first_gone q m)
    swaps n b a x u v t8 rows k f (yes q) (yes m) (inr (j, l, c)) = (_, _, _, kcss_other q l c m)
    swaps n b a x u v t8 rows k f (yes q) (no m) (inr (j, l, c)) = (_, _, _, kcss_other_gone q l c m)
    swaps n b a x u v t8 rows zero f (yes q) (yes m) (inl c) = (_, _, _, kcss_one q m)
    swaps n b a x u v t8 rows (suc k) f (yes q) (yes m) (inl c) = (_, _, _, kcss_yes q c m)
    swaps n b a x u v t8 rows k f (yes q) (no m) (inl c) = (_, _, _, kcss_retry q c m)

    notes : (n b : ℕ) (J : Job V) (v : V) (t8 : ℕ) → CanStep t p w (proc n none b (to_note J v t8))
    notes n b (for_ll a) v t8 = (_, _, _, line_9_ll)
    notes n b (for_kcss a x u rows zero) v t8 = (_, _, _, line_9_one)
    notes n b (for_kcss a x u rows (suc k)) v t8 = (_, _, _, line_9_more)

    goes_in : (n b : ℕ) (l : Option ℕ) (ph : Phase V) → (phase_request ph ≡ none → ⊥) → PhaseSound w.saved p l ph → CanStep t p w (proc n l b ph)
    goes_in n b l resting f h = absurd (f refl)
    goes_in n b l (reading a s) f h =
        elim (turns a s h) [ inl x ↦ (_, _, _, read_on x.2) | inr x ↦ (_, _, _, read_got x.2) ]
    goes_in n b l (attempt J) f h =
        free n b l (attempt J) h
        (elim (holds (place_of J)) [ inl x ↦ (_, _, _, attempt_value x.1) | inr x ↦ (_, _, _, attempt_id x.0 x.1) ])
    goes_in n b l (attempt_again J) f h =
        free n b l (attempt_again J) h
        (elim (holds (place_of J)) [ inl x ↦ (_, _, _, again_value x.1) | inr x ↦ (_, _, _, again_id x.0 x.1) ])
    goes_in n b l (linking J s) f (g, h) =
        free n b l (linking J s) g
        (elim (turns (place_of J) s h) [ inl x ↦ (_, _, _, link_on x.2) | inr x ↦ (_, _, _, link_got x.2) ])
    goes_in n b l (to_save J v) f h = free n b l (to_save J v) h (_, _, _, line_7)
    goes_in n b l (to_mark J v) f (g, h) =
        free n b l (to_mark J v) g
        (elim (same_cell (w.val (place_of J)) (Value v)) [ yes e ↦ (_, _, _, line_8_yes e) | no m ↦ (_, _, _, line_8_no m) ])
    goes_in n b l (to_note J v t8) f h = free n b l (to_note J v t8) h (notes n b J v t8)
    goes_in n b l (swap_sc a u) f h =
        free n b l (swap_sc a u) h
        (elim (same_cell (w.val a) (id_cell p n)) [ yes e ↦ (_, _, _, sc_yes e) | no m ↦ (_, _, _, sc_no m) ])
    goes_in n b l (first_id F rows k i) f h =
        elim (below_or (suc i) k) [ inl y ↦ (_, _, _, s6_on y) | inr y ↦ (_, _, _, s6_end y) ]
    goes_in n b l (first_collect F rows k i s) f (g, h) =
        elim (turns (rows i).location s h) [
          | inl x ↦ (_, _, _, c1_on x.2)
          | inr x ↦ elim (below_or (suc i) k) [ inl y ↦ (_, _, _, c1_got x.2 y) | inr y ↦ (_, _, _, c1_end x.2 y) ]
        ]
    goes_in n b l (second_collect F rows k o i s) f (g, h) =
        elim (turns (rows i).location s h) [
          | inl x ↦ (_, _, _, c2_on x.2)
          | inr x ↦ elim (below_or (suc i) k) [ inl y ↦ (_, _, _, c2_got x.2 y) | inr y ↦ (_, _, _, c2_end x.2 y) ]
        ]
    goes_in n b l (second_id F rows k o i) f h =
        elim (below_or (suc i) k) [ inl y ↦ (_, _, _, s9_on y) | inr y ↦ ends_9 n b l F rows k o i y ]
    goes_in n b l (swap a x u v t8 rows k o) f h =
        free n b l (swap a x u v t8 rows k o) h
        (swaps n b a x u v t8 rows k o (d v x) (same_cell (w.val a) (id_cell p n))
        (all_or (λ j. (rows j).first ≡ (rows j).expected) (λ j. d (rows j).first (rows j).expected) k))

    pub goes : (r : Process V) → (asked r ≡ none → ⊥) → ProcessSound w.saved p r → CanStep t p w r
    goes (proc n l b ph) f h = goes_in n b l ph f h

runs_in : {V : Type 0} (ph : Phase V) → PhaseFits ph → phase_request ph ≡ none → ⊥
runs_in resting f e = absurd f
runs_in ph f e = clash (cc)

runs : {V : Type 0} (r : Process V) → Fits r → asked r ≡ none → ⊥
runs (proc n l b ph) f e = runs_in ph f e

-- as long as lines remain
finishes : {V : Type 0} → Discrete V → (p N t : ℕ) (m : Machine V) → Sound m p → Fits (m.processes p) → Remaining m p N → EndsWithin p N t m
finishes d p zero t m S f h = bounds.measure.not_zero p m h
finishes {V = V} d p (suc N) t m S f h = over (goes d t p (world m) (m.processes p) (runs (m.processes p) f) S.process) (λ e r l. finishes d p N (suc t) (turned m e p r))
  where
    over : CanStep t p (world m) (m.processes p)
        → ((e : Event V) (r : Process V) → Line t p (world m) (m.processes p) e r none → Sound (turned m e p r) p → Fits ((turned m e p r).processes p)
        → Remaining (turned m e p r) p N → EndsWithin p N (suc t) (turned m e p r))
        → EndsWithin p (suc N) t m
    over (e, r, some o, l) more = (e, r, inl (o, l))
    over (e, r, none, l) more = (
      e,
      r,
      inr (
        l,
        more e r l (stays_sound t p m e r none l S)
            (subst (λ (x : Process V). Fits x) (sym (changed_here m.processes p r)) (asked_bounds.lines_fit t p (world m) (m.processes p) r e l f))
            (bounds.measure.falls t p N m e r l h),
      ),
    )

pub goes_on : {V : Type 0} → GoesOn V
goes_on = record {
  goes = λ d t p m S f. goes d t p (world m) (m.processes p) (runs (m.processes p) f) S.process;
  stays_sound = stays_sound;
  finishes = λ d t p m S f. finishes d p (bound (m.processes p)) t m S f (bounds.measure.within_bound p m f);
}

-- while the process steps alone
module _ {V : Type 0} (p : ℕ) (m : Machine V) (q : Request V) (S : Sound m p) (f : Fits (m.processes p)) (a : asked (m.processes p) ≡ some q) where
  abbrev RunsOn : Machine V → Type 0
  RunsOn b = Sound b p × Fits (b.processes p) × (asked (b.processes p) ≡ some q)

  with_starts : {s : ℕ} {b b' : Machine V} {list : List (Given V)} → Begun s b list b' → RunsOn b → RunsOn b'
  with_starts {b = b} {b' = b'} u (T, g, h) =
      let w = begun_same u in
      let i = still_runs u p (λ (n, l, c, i). subst (λ (x : Process V). Fits x) i g) in (
        record {
          cells = subst CellsSound (sym w) T.cells;
          process = subst (λ (x : ℕ → Cell V). ProcessSound x p (b'.processes p)) (sym (ap (λ w. w.saved) w))
              (subst (λ (x : Process V). ProcessSound b.saved p x) (sym i) T.process);
        },
        subst (λ (x : Process V). Fits x) (sym i) g,
        ap asked i ∙ h,
      )

  with_line : (s : ℕ) (b : Machine V) (e : Event V) (r : Process V) → Line s p (world b) (b.processes p) e r none → RunsOn b → RunsOn (turned b e p r)
  with_line s b e r l (T, g, h) =
      let i = changed_here b.processes p r in (
        stays_sound s p b e r none l T,
        subst (λ (x : Process V). Fits x) (sym i) (asked_bounds.lines_fit s p (world b) (b.processes p) r e l g),
        ap asked i ∙ keeps l ∙ h,
      )

  runs_on : {N : ℕ} {b : Machine V} → AloneTo p m N b → RunsOn b
  runs_on no_line = (S, f, a)
  runs_on (then_starts x s u) = with_starts u (runs_on x)
  runs_on (then_line {b = b} x s e r l) = with_line s b e r l (runs_on x)

  pub finishes_alone : Discrete V → FinishesAlone p m q
  finishes_alone d = record {
    goes_on = λ N b x s. let h = runs_on x in goes d s p (world b) (b.processes p) (runs (b.processes p) h.1) h.0.process;
    in_time = λ N b x. asked_bounds.ends_asked_to p N m b q f a x;
    ends_it = λ N b x s e r ended answer effect l. let h = (runs_on x).2 in let k = (keeps l).0 in cc;
  }

pub always_goes_on : {V : Type 0} → Discrete V → AlwaysGoesOn V
always_goes_on d = record {
  goes = λ t p m S f. goes_on.goes d t p m S f;
  stays_sound = stays_sound;
  finishes = λ p m q S f a. finishes_alone p m q S f a d;
}
