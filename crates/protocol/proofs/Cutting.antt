-- Every run is lawful at every step: cut there it comes to a pause.
use Rattle.std.proofs.Common.{◌≡◌, ℕ, zero, suc, ◌<◌, ◌≤◌, List, [], sym, refl, ap, ◌∙◌, subst, arith}
use mathlib.Core.Option.{Option, none}
use native.Mathlib.Decide.{ℕ_discrete, dec_le}
use Rattle.protocol.specs.World.{own_id}
use Rattle.protocol.specs.Events.{Event}
use Rattle.protocol.specs.Events.Event.{look}
use Rattle.protocol.specs.Operations.{Finished}
use Rattle.protocol.specs.Phases.{Done}
use Rattle.protocol.specs.Runs.{Machine, world, Given, Call, Run, finished}
use Rattle.protocol.specs.Runs.Call.{pauses}
use Rattle.protocol.specs.World.{Stands}
use Rattle.protocol.specs.Lists.{◌∈◌, by_effect, Ascending}
use Rattle.protocol.specs.Store.{opened_store}
use Rattle.protocol.specs.Replay.{Replays}
use Rattle.protocol.specs.Order.{MarkWasReset, Ordered}
use Rattle.protocol.specs.Lawful.{Law, RunLaw}
use Rattle.protocol.proofs.Prefix.{pick, pick_yes, pick_no}
use Rattle.protocol.proofs.Listing.{order_all, order_only, ascending_once}
use Rattle.protocol.proofs.Tracing.{history}
use Rattle.protocol.proofs.Finishing.{sound, complete, over_of}
use Rattle.protocol.proofs.Pausing.{ordered}
use Rattle.protocol.proofs.Belonging.{belongs, lost_to_reset}

module _ {V : Type 0} (R : Run V) (n : ℕ) where
  at_to : ℕ → Machine V
  at_to t = pick (dec_le t n) (R.at t) (R.at n)

  starts_to : ℕ → List (Given V)
  starts_to t = pick (dec_le (suc t) n) (R.starts t) []

  event_to : ℕ → Event V
  event_to t = pick (dec_le (suc t) n) (R.event t) (look (R.who t))

  out_to : ℕ → Option (Done V)
  out_to t = pick (dec_le (suc t) n) (R.out t) none

  same_at : (t : ℕ) → t ≤ n → at_to t ≡ R.at t
  unfolding at_to
  same_at t h = pick_yes (dec_le t n) (R.at t) (R.at n) h

  past_at : (t : ℕ) → n ≤ t → at_to t ≡ R.at n
  past_at t h = elim (ℕ_discrete t n) [ yes e ↦ same_at t (omega arith) ∙ ap R.at e | no k ↦ unfold at_to in pick_no (dec_le t n) (R.at t) (R.at n) (omega arith) ]

  same_starts : (t : ℕ) → t < n → starts_to t ≡ R.starts t
  unfolding starts_to
  same_starts t h = pick_yes (dec_le (suc t) n) (R.starts t) [] h

  same_event : (t : ℕ) → t < n → event_to t ≡ R.event t
  unfolding event_to
  same_event t h = pick_yes (dec_le (suc t) n) (R.event t) (look (R.who t)) h

  same_out : (t : ℕ) → t < n → out_to t ≡ R.out t
  unfolding out_to
  same_out t h = pick_yes (dec_le (suc t) n) (R.out t) none h

  no_starts : (t : ℕ) → (t < n → ⊥) → starts_to t ≡ []
  unfolding starts_to
  no_starts t h = pick_no (dec_le (suc t) n) (R.starts t) [] h

  looks_on : (t : ℕ) → (t < n → ⊥) → event_to t ≡ look (R.who t)
  unfolding event_to
  looks_on t h = pick_no (dec_le (suc t) n) (R.event t) (look (R.who t)) h

  no_out : (t : ℕ) → (t < n → ⊥) → out_to t ≡ none
  unfolding out_to
  no_out t h = pick_no (dec_le (suc t) n) (R.out t) none h

  call_to : (t : ℕ) → Call t (R.who t) (at_to t) (at_to (suc t)) (starts_to t) (event_to t) (out_to t)
  call_to t =
      elim (dec_le (suc t) n) [
        | yes h ↦ rw (same_at t (omega arith), same_at (suc t) h, same_starts t h, same_event t h, same_out t h) (R.call t)
        | no h ↦ rw (no_starts t h, looks_on t h, no_out t h) (pauses (past_at (suc t) (omega arith) ∙ sym (past_at t (omega arith))))
      ]

  -- the first n steps, and pauses from then on
  abbrev cut : Run V
  cut = record {
    at = at_to;
    who = R.who;
    starts = starts_to;
    event = event_to;
    out = out_to;
    initial = R.initial;
    vals = λ a. ap (λ m. m.val a) (same_at 0 (omega arith)) ∙ R.vals a;
    tids = λ a. ap (λ m. m.tid a) (same_at 0 (omega arith)) ∙ R.tids a;
    saves = λ p. ap (λ m. m.saved p) (same_at 0 (omega arith)) ∙ R.saves p;
    rested = λ p. ap (λ m. m.processes p) (same_at 0 (omega arith)) ∙ R.rested p;
    call = call_to;
  }

  ordered_cut : Ordered (history cut) (finished cut n) n
  ordered_cut = ordered cut n (λ t h. (looks_on t (λ k. omega arith), no_out t (λ k. omega arith)))

  same_finished : (t : ℕ) → t ≤ n → finished cut t ≡ finished R t
  same_finished zero h = refl
  same_finished (suc t) h = let e = same_out t h in let ih = same_finished t (omega arith) in cc

  all_same : finished cut n ≡ finished R n
  all_same = same_finished n (omega arith)

  back : (o : Finished V) → o ∈ finished R n → o ∈ finished cut n
  back o m = subst (λ l. o ∈ l) (sym all_same) m

  -- the reset that an SC lost its mark to, in the whole run
  lost : (o : Finished V) (a : ℕ) → o ∈ finished R n → MarkWasReset (history cut) (finished cut n) o a → MarkWasReset (history R) (finished R n) o a
  lost o a m s =
      let i = s.its_ll in
      let j = i.linking in
      let h1 = s.after_mark in let h2 = s.before_end in
      let h3 = (over_of R n o m).mine.past in let h4 = (sound R n o m).0 in
      record {
        its_ll = record {
          linking = j;
          value = i.value;
          is_listed = subst (λ l. j ∈ l) all_same i.is_listed;
          same_process = i.same_process;
          asked = i.asked;
          before = i.before;
          marked = sym (same_event j.effect (omega arith)) ∙ i.marked;
          same_tag = ap (λ m. (world m).tag o.process) (sym (same_at j.effect (omega arith))) ∙ i.same_tag ∙ ap (λ m. (world m).tag o.process) (same_at o.effect (omega arith));
          latest = λ other m'. i.latest other (back other m');
        };
        step = s.step;
        by_process = s.by_process;
        value = s.value;
        after_mark = s.after_mark;
        before_end = s.before_end;
        resets = sym (same_event s.step (omega arith)) ∙ s.resets;
        its_mark = ap (λ m. m.val a) (sym (same_at s.step (omega arith))) ∙ s.its_mark ∙ ap (λ m. own_id (world m) o.process) (same_at j.effect (omega arith));
      }

  ascending : Ascending (by_effect (finished R n))
  ascending = subst (λ l. Ascending (by_effect l)) all_same ordered_cut.ascending

  pub lawful : Law R n
  lawful = record {
    every = λ t q z f h e. order_all (finished R n) _ (complete R n t q z f h e);
    all = order_all (finished R n);
    only = order_only (finished R n);
    once = ascending_once (by_effect (finished R n)) ascending;
    ascending = ascending;
    distinct = subst (λ l. (o o' : Finished V) → o ∈ l → o' ∈ l → o.effect ≡ o'.effect → o ≡ o') all_same ordered_cut.distinct;
    store = ordered_cut.store;
    replays = subst (λ l. Replays (opened_store R.initial) (by_effect l) ordered_cut.store) all_same ordered_cut.replays;
    stands = λ a. subst (λ m. Stands (world m) a (ordered_cut.store.value a)) (same_at n (omega arith)) (ordered_cut.stands a);
    belongs = belongs R n;
    failures = λ o a v m e e'. lost_to_reset R n o a v m e (lost o a m (ordered_cut.failures o a v (back o m) e e'));
  }

pub run_law : {V : Type 0} → RunLaw V
run_law R n = lawful R n
