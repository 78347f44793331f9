-- What a finished operation of a run was given, its first step and its effect; and who reset the mark of an SC that said no.
use Rattle.std.proofs.Common.{◌≡◌, ℕ, suc, ◌-◌, ◌<◌, ◌≤◌, List, sym, ap, ◌∙◌, subst, arith}
use mathlib.Core.Option.{Option, some}
use native.Mathlib.Decide.{ℕ_discrete, dec_le}
use Rattle.protocol.specs.Events.{Event, maker}
use Rattle.protocol.specs.Events.Event.{reset}
use Rattle.protocol.specs.Operations.{Request, Finished}
use Rattle.protocol.specs.Operations.Request.{sc}
use Rattle.protocol.specs.Phases.{Done}
use Rattle.protocol.specs.Runs.{Machine, Given, WasGiven, Call, Run, MakesLine, Makes, IsLine, IsLineOf, finished}
use Rattle.protocol.specs.Runs.Call.{steps, pauses}
use Rattle.protocol.specs.Lists.{◌∈◌}
use Rattle.protocol.specs.Order.{MarkWasReset}
use Rattle.protocol.specs.Lawful.{Belongs, LostToReset}
use Rattle.protocol.proofs.Changes.{clash}
use Rattle.protocol.proofs.Time.{First, first_of}
use Rattle.protocol.proofs.Turning.{call_maker}
use Rattle.protocol.proofs.Tracing.{history}
use Rattle.protocol.proofs.Finishing.{sound, over_of, ll_quiet, sc_quiet}

module _ {V : Type 0} {t p : ℕ} {m m' : Machine V} where
  line_or_pause : {list : List (Given V)} {e : Event V} {d : Option (Done V)} (c : Call t p m m' list e d) → Dec (IsLine c)
  line_or_pause (steps l b y r e d x i) = yes tt
  line_or_pause (pauses i) = no (λ x. x)

  -- a pause ends nothing and resets nothing
  end_is_line : {list : List (Given V)} {e : Event V} {d : Option (Done V)} (c : Call t p m m' list e d) {o : Done V} → d ≡ some o → IsLine c
  end_is_line (steps l b y r e d x i) h = tt
  end_is_line (pauses i) h = clash (cc)

  reset_is_line : {list : List (Given V)} {e : Event V} {d : Option (Done V)} (c : Call t p m m' list e d) {q a : ℕ} {v : V} → e ≡ reset q a v → IsLine c
  reset_is_line (steps l b y r e d x i) h = tt
  reset_is_line (pauses i) h = clash (cc)

  makes_line : {list : List (Given V)} {e : Event V} {d : Option (Done V)} (c : Call t p m m' list e d) → IsLine c → MakesLine t p m list e d
  makes_line (steps l b y r e d x i) h = (b, r, y, x)
  makes_line (pauses i) h = absurd h

module _ {V : Type 0} (R : Run V) (n : ℕ) where
  makes_or_not : (p t : ℕ) → Dec (IsLineOf R t p)
  makes_or_not p t =
      elim (ℕ_discrete (R.who t) p) [
        | no h ↦ no (λ x. h x.0)
        | yes e ↦ elim (line_or_pause (R.call t)) [ yes l ↦ yes (e, l) | no h ↦ no (λ x. h x.1) ]
      ]

  makes_of : (t p : ℕ) → IsLineOf R t p → Makes R t p
  makes_of t p h = subst (Makes R t) h.0 (makes_line (R.call t) h.1)

  effect_is_own_line : (o : Finished V) → o ∈ finished R n → IsLineOf R o.effect o.process
  effect_is_own_line o m = subst (IsLineOf R o.effect) (sound R n o m).1 (over_of R n o m).mine.by

  its_first : (o : Finished V) (m : o ∈ finished R n) → First (λ t. IsLineOf R t o.process) (over_of R n o m).b o.effect
  its_first o m =
      let b = (over_of R n o m).b in
      let h = (over_of R n o m).mine.begun in
      first_of (λ t. IsLineOf R t o.process) (makes_or_not o.process) (o.effect - b) b o.effect (omega arith) (effect_is_own_line o m)

  ended_once : (o : Finished V) (m : o ∈ finished R n) (other : Finished V) → other ∈ finished R n → other.process ≡ o.process → (over_of R n o m).b ≤ other.last → other.last < o.last → ⊥
  ended_once o m other m' p h l = let d' = sound R n other m' in let k = (over_of R n o m).clear other.last h l (d'.1 ∙ p ∙ sym (sound R n o m).1) in clash (cc d'.2)

  given_only : (o : Finished V) (m : o ∈ finished R n) (t : ℕ) (q : Request V) → (over_of R n o m).b ≤ t → t ≤ o.last → WasGiven o.process q (R.starts t) → (t ≡ (over_of R n o m).b) × (q ≡ o.request)
  given_only o m t q h k w = (over_of R n o m).asks_once t q h (omega arith) (subst (λ p. WasGiven p q (R.starts t)) (sym (sound R n o m).1) w)

  given_once : (o : Finished V) (m : o ∈ finished R n) (t : ℕ) (q : Request V) → (over_of R n o m).b < t → t ≤ o.last → WasGiven o.process q (R.starts t) → ⊥
  given_once o m t q h k w = let e = (given_only o m t q (omega arith) k w).0 in omega arith

  pub belongs : (o : Finished V) → o ∈ finished R n → Belongs R n o
  belongs o m = record {
    start = (over_of R n o m).b;
    was_given = subst (λ p. WasGiven p o.request (R.starts (over_of R n o m).b)) (sound R n o m).1 (over_of R n o m).asks;
    given_once = given_once o m;
    given_only = given_only o m;
    ended_once = ended_once o m;
    first = (its_first o m).time;
    first_after_start = (its_first o m).since;
    first_is_line = (its_first o m).holds;
    none_before = (its_first o m).none_before;
    from_first = (its_first o m).early;
    after_start = (over_of R n o m).mine.begun;
    in_time = (over_of R n o m).mine.past;
    own_effect = (effect_is_own_line o m).0;
    effect_is_line = makes_of o.effect o.process (effect_is_own_line o m);
    effect_is_own_line = effect_is_own_line o m;
    own_end = (sound R n o m).1;
    last_is_line = ((sound R n o m).1, end_is_line (R.call o.last) (sound R n o m).2);
    before_n = (sound R n o m).0;
    ends = (sound R n o m).2;
  }

  -- the process that made the reset
  made_by : (t q a : ℕ) (v : V) → R.event t ≡ reset q a v → IsLineOf R t q
  made_by t q a v e = (sym (call_maker (R.call t)) ∙ ap maker e, reset_is_line (R.call t) e)

  pub lost_to_reset : (o : Finished V) (a : ℕ) (v : V) (m : o ∈ finished R n) → o.request ≡ sc a v → MarkWasReset (history R) (finished R n) o a
      → LostToReset R n o a (belongs o m).start
  unfolding belongs
  lost_to_reset o a v m e s = record {
    linking = s.its_ll.linking;
    is_listed = s.its_ll.is_listed;
    same_process = s.its_ll.same_process;
    asked = s.its_ll.asked;
    value = s.its_ll.value;
    marked = s.its_ll.marked;
    latest = s.its_ll.latest;
    step = s.step;
    by_process = s.by_process;
    saved = s.value;
    after_mark = s.after_mark;
    before_end = s.before_end;
    made_by = made_by s.step s.by_process a s.value s.resets;
    resets = s.resets;
    its_mark = s.its_mark;
    by_another = λ p. (after_ll p, before_sc p);
  }
    where
      after_ll : s.by_process ≡ o.process → s.its_ll.linking.last < s.step
      after_ll p =
          let i = s.its_ll in
          let j = i.linking in
          let d = sound R n j i.is_listed in
          let x = over_of R n j i.is_listed in
          let w : s.by_process ≡ R.who j.last = p ∙ sym i.same_process ∙ sym d.1 in
          let k = s.after_mark in
          elim (dec_le (suc j.last) s.step) [
            | yes h ↦ h
            | no h ↦ absurd (ll_quiet R j.last (R.who j.last) x.b j.effect a j.request j.answer i.asked x.ended s.step a s.value (omega arith) (omega arith)
                (s.resets ∙ ap (λ q. reset q a s.value) w))
          ]

      before_sc : s.by_process ≡ o.process → s.step < (over_of R n o m).b
      before_sc p =
          let d = sound R n o m in
          let x = over_of R n o m in
          let w : s.by_process ≡ R.who o.last = p ∙ sym d.1 in
          let k = s.before_end in
          let l = x.mine.past in
          elim (dec_le (suc s.step) x.b) [
            | yes h ↦ h
            | no h ↦ absurd (sc_quiet R o.last (R.who o.last) x.b o.effect a v o.request o.answer e x.ended s.step a s.value (omega arith) (omega arith)
                (s.resets ∙ ap (λ q. reset q a s.value) w))
          ]
