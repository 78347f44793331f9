-- A history from worlds whose every next event is possible, given what the history so far says.
use Rattle.std.proofs.Common.{◌≡◌, ℕ, zero, suc, ◌<◌, ◌≤◌, sym, refl, ap, ◌∙◌, subst, arith}
use native.Mathlib.Decide.{ℕ_discrete, dec_le}
use Rattle.protocol.specs.World.{World}
use Rattle.protocol.specs.Events.{Event, Possible, after}
use Rattle.protocol.specs.Events.Event.{look}
use Rattle.protocol.specs.History.{Opened, History}

pub pick : {A X : Type 0} → Dec A → X → X → X
pick (yes a) x y = x
pick (no h) x y = y

pub pick_yes : {A X : Type 0} (d : Dec A) (x y : X) → A → pick d x y ≡ x
unfolding pick
pick_yes (yes a) x y h = refl
pick_yes (no k) x y h = absurd (k h)

pub pick_no : {A X : Type 0} (d : Dec A) (x y : X) → (A → ⊥) → pick d x y ≡ y
unfolding pick
pick_no (yes a) x y h = absurd (h a)
pick_no (no k) x y h = refl

module _ {V : Type 0} (at : ℕ → World V) (event : ℕ → Event V) (initial : ℕ → V) (opened : Opened (at 0) initial)
    (leads : (t : ℕ) → at (suc t) ≡ after (event t) (at t)) where
  at_to : ℕ → ℕ → World V
  at_to n t = pick (dec_le t n) (at t) (at n)

  event_to : ℕ → ℕ → Event V
  event_to n t = pick (dec_le (suc t) n) (event t) (look 0)

  same_at : (n t : ℕ) → t ≤ n → at_to n t ≡ at t
  unfolding at_to
  same_at n t h = pick_yes (dec_le t n) (at t) (at n) h

  -- the first n events, and looks from then on
  cut : (n : ℕ) → ((t : ℕ) → t < n → Possible (event t) (at t)) → History V
  cut n possible = record {
    at = at_to n;
    event = event_to n;
    initial = initial;
    opened = subst (λ w. Opened w initial) (sym (same_at n 0 (omega arith))) opened;
    possible = cans;
    leads = steps;
  }
    where
      events : (t : ℕ) → t < n → event_to n t ≡ event t
      events t h = unfold event_to in pick_yes (dec_le (suc t) n) (event t) (look 0) h

      looks : (t : ℕ) → (t < n → ⊥) → event_to n t ≡ look 0
      looks t h = unfold event_to in pick_no (dec_le (suc t) n) (event t) (look 0) h

      past_n : (t : ℕ) → n ≤ t → at_to n t ≡ at n
      past_n t h = elim (ℕ_discrete t n) [ yes e ↦ same_at n t (omega arith) ∙ ap at e | no k ↦ unfold at_to in pick_no (dec_le t n) (at t) (at n) (omega arith) ]

      cans : (t : ℕ) → Possible (event_to n t) (at_to n t)
      cans t =
          elim (dec_le (suc t) n) [
            | yes h ↦ rw (events t h, same_at n t (omega arith)) (possible t h)
            | no h ↦ rw (looks t h) tt
          ]

      steps : (t : ℕ) → at_to n (suc t) ≡ after (event_to n t) (at_to n t)
      steps t =
          elim (dec_le (suc t) n) [
            | yes h ↦ rw (events t h, same_at n t (omega arith), same_at n (suc t) h) (leads t)
            | no h ↦ rw (looks t h) (past_n (suc t) (omega arith) ∙ sym (past_n t (omega arith)))
          ]

  module _ (next : (n : ℕ) (H : History V) → ((t : ℕ) → t ≤ n → H.at t ≡ at t) → Possible (event n) (at n)) where
    below : (n t : ℕ) → t < n → Possible (event t) (at t)
    unfolding cut
    below zero t h = absurd (omega arith)
    below (suc n) t h =
        elim (ℕ_discrete t n) [
          | yes e ↦ subst (λ x. Possible (event x) (at x)) (sym e) (next n (cut n (below n)) (λ s k. same_at n s k))
          | no k ↦ below n t (omega arith)
        ]

    -- the endless history of these worlds and events
    pub history : History V
    history = record { at = at; event = event; initial = initial; opened = opened; possible = λ t. below (suc t) t (omega arith); leads = leads }

    -- every event is possible
    pub every_step : (t : ℕ) → Possible (event t) (at t)
    every_step t = below (suc t) t (omega arith)
