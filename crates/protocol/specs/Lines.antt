-- The lines of the operations: what one step of a process finds, does and leads to.
use Rattle.std.specs.Prelude.{◌≡◌, ℕ, zero, suc, ◌<◌, ◌≤◌, true, false, [], ◌∷◌, ◌≢◌}
use Rattle.std.proofs.Math.Option.{Option, some, none}
use Rattle.memory.specs.declared.cell.Cell.TheVariants.{Value, Id}
use Rattle.memory.specs.declared.cell.TaggedId.{TaggedId}
use Rattle.protocol.specs.World.{World, id_cell, changed}
use Rattle.protocol.specs.Events.{Event}
use Rattle.protocol.specs.Events.Event.{look, begin, save, mark, note, commit, fail, reset}
use Rattle.protocol.specs.Operations.Request.{read, ll, sc, snapshot}
use Rattle.protocol.specs.Operations.Answer.{values, said}
use Rattle.protocol.specs.Phases.{ReadPhase, Rows, with_id_first, with_id_second, with_first, with_second, Job}
use Rattle.protocol.specs.Phases.{place_of, Purpose, Process, Done, collected, places, Same, Meets, kcss_of}
use Rattle.protocol.specs.Phases.ReadPhase.{looks, looks_again, fetches, resets}
use Rattle.protocol.specs.Phases.Job.{for_ll, for_kcss}
use Rattle.protocol.specs.Phases.Purpose.{solo, inside}
use Rattle.protocol.specs.Phases.Phase.{resting, reading, attempt, attempt_again, linking, to_save, to_mark, to_note}
use Rattle.protocol.specs.Phases.Phase.{swap_sc, first_id, first_collect, second_collect, second_id, swap}
use Rattle.protocol.specs.Phases.Process.{proc}
use Rattle.protocol.specs.Phases.Done.{done}

-- Where a line of a READ leads: on to another, or to the value.
pub data ReadTurn (V : Type 0) : Type 0 where
  on : ReadPhase V → ReadTurn V
  got : (value : V) → ReadTurn V

-- The lines of a READ of location a by process p in the world w. 13: a value ends it, an id leads to 1. 1: a value leads
-- to 13, an id is kept and leads to 3a. 3a finds the saved value of the kept id's process. 3b puts it in place of the
-- kept id, if that still stands; 13 follows either way.
pub data ReadLine {V : Type 0} (w : World V) (p a : ℕ) : ReadPhase V → Event V → ReadTurn V → Type 0 where
  line_13_value : (v : V) → w.val a ≡ Value v → ReadLine w p a looks (look p) (got v)
  line_13_id : (k : TaggedId) → w.val a ≡ Id k → ReadLine w p a looks (look p) (on looks_again)
  line_1_value : (v : V) → w.val a ≡ Value v → ReadLine w p a looks_again (look p) (on looks)
  line_1_id : (k : TaggedId) → w.val a ≡ Id k → ReadLine w p a looks_again (look p) (on (fetches k))
  line_3a : (k : TaggedId) (v : V) → w.saved k.process ≡ Value v
      → ReadLine w p a (fetches k) (look p) (on (resets k v))
  line_3b_yes : (k : TaggedId) (v : V) → w.val a ≡ Id k → ReadLine w p a (resets k v) (reset p a v) (on looks)
  line_3b_no : (k : TaggedId) (v : V) → (w.val a ≢ Id k) → ReadLine w p a (resets k v) (look p) (on looks)

-- Process p makes step t in the world w: from its state, by an event, to its next state, and it may end an operation.
-- In each line n is the tag, l the link, b the since of the process; J what an LL is made for, F what a SNAPSHOT is
-- made for; a location, x expected value, u new value, v the LL's value, t8 the step of its 8; rows the operands, k
-- their count, i the one in turn, f the step that ended the first collect.
pub data Line {V : Type 0} (t p : ℕ) (w : World V)
    : Process V → Event V → Process V → Option (Done V) → Type 0 where
  -- READ: 13, 1, 3a and 3b; a value found by 13 ends it, and its effect is that step.
  read_on : {n b : ℕ} {l : Option ℕ} {a : ℕ} {s s' : ReadPhase V} {e : Event V} → ReadLine w p a s e (on s')
      → Line t p w (proc n l b (reading a s)) e (proc n l b (reading a s')) none
  read_got : {n b : ℕ} {l : Option ℕ} {a : ℕ} {s : ReadPhase V} {e : Event V} {v : V} → ReadLine w p a s e (got v)
      → Line t p w (proc n l b (reading a s)) e (proc n l b resting) (some (done (read a) (values (v ∷ [])) t))
  -- LL: the first 13 of a fresh attempt raises the tag; the rest of its READ; 7; 8; 9, with the step of 8 as effect.
  attempt_value : {n b : ℕ} {J : Job V} {v : V} → w.val (place_of J) ≡ Value v
      → Line t p w (proc n none b (attempt J)) (begin p) (proc (suc n) none b (to_save J v)) none
  attempt_id : {n b : ℕ} {J : Job V} (k : TaggedId) → w.val (place_of J) ≡ Id k
      → Line t p w (proc n none b (attempt J)) (begin p) (proc (suc n) none b (linking J looks_again)) none
  again_value : {n b : ℕ} {J : Job V} {v : V} → w.val (place_of J) ≡ Value v
      → Line t p w (proc n none b (attempt_again J)) (begin p) (proc (suc n) none b (to_save J v)) none
  again_id : {n b : ℕ} {J : Job V} (k : TaggedId) → w.val (place_of J) ≡ Id k
      → Line t p w (proc n none b (attempt_again J)) (begin p) (proc (suc n) none b (linking J looks_again)) none
  link_on : {n b : ℕ} {J : Job V} {s s' : ReadPhase V} {e : Event V} → ReadLine w p (place_of J) s e (on s')
      → Line t p w (proc n none b (linking J s)) e (proc n none b (linking J s')) none
  link_got : {n b : ℕ} {J : Job V} {s : ReadPhase V} {e : Event V} {v : V} → ReadLine w p (place_of J) s e (got v)
      → Line t p w (proc n none b (linking J s)) e (proc n none b (to_save J v)) none
  line_7 : {n b : ℕ} {J : Job V} {v : V}
      → Line t p w (proc n none b (to_save J v)) (save p v) (proc n none b (to_mark J v)) none
  line_8_yes : {n b : ℕ} {J : Job V} {v : V} → w.val (place_of J) ≡ Value v
      → Line t p w (proc n none b (to_mark J v)) (mark p (place_of J) v) (proc n none b (to_note J v t)) none
  line_8_no : {n b : ℕ} {J : Job V} {v : V} → (w.val (place_of J) ≢ Value v)
      → Line t p w (proc n none b (to_mark J v)) (look p) (proc n none b (attempt_again J)) none
  line_9_ll : {n b a : ℕ} {v : V} {t8 : ℕ}
      → Line t p w (proc n none b (to_note (for_ll a) v t8)) (note p a)
      (proc n (some a) b resting) (some (done (ll a) (values (v ∷ [])) t8))
  -- KCSS: after 9 comes 11, or S6 if there are other operands.
  line_9_one : {n b a : ℕ} {x u v : V} {rows : Rows V} {t8 : ℕ}
      → Line t p w (proc n none b (to_note (for_kcss a x u rows zero) v t8)) (note p a)
      (proc n none b (swap a x u v t8 rows zero zero)) none
  line_9_more : {n b a : ℕ} {x u v : V} {rows : Rows V} {k t8 : ℕ}
      → Line t p w (proc n none b (to_note (for_kcss a x u rows (suc k)) v t8)) (note p a)
      (proc n none b (first_id (inside a x u v t8) rows (suc k) zero)) none
  -- SC: 11 compares with own id, and its effect is that step.
  sc_yes : {n b a : ℕ} {u : V} → w.val a ≡ id_cell p n
      → Line t p w (proc n none b (swap_sc a u)) (commit p a u)
      (proc n none b resting) (some (done (sc a u) (said true) t))
  sc_no : {n b a : ℕ} {u : V} → (w.val a ≢ id_cell p n)
      → Line t p w (proc n none b (swap_sc a u)) (fail p a)
      (proc n none b resting) (some (done (sc a u) (said false) t))
  -- SNAPSHOT: S6 for each operand, two collects, S9 for each operand. If ids and values are the same it ends, with the
  -- step that ended the first collect as effect, or goes on to 11; else S6 follows.
  s6_on : {n b : ℕ} {l : Option ℕ} {F : Purpose V} {rows : Rows V} {k i : ℕ} → suc i < k
      → Line t p w (proc n l b (first_id F rows k i)) (look p)
      (proc n l b (first_id F (changed rows i (with_id_first (rows i) (w.tid (rows i).location))) k (suc i))) none
  s6_end : {n b : ℕ} {l : Option ℕ} {F : Purpose V} {rows : Rows V} {k i : ℕ} → k ≤ suc i
      → Line t p w (proc n l b (first_id F rows k i)) (look p)
      (proc n l b (first_collect F (changed rows i (with_id_first (rows i) (w.tid (rows i).location))) k zero looks))
      none
  c1_on : {n b : ℕ} {l : Option ℕ} {F : Purpose V} {rows : Rows V} {k i : ℕ} {s s' : ReadPhase V} {e : Event V}
      → ReadLine w p (rows i).location s e (on s')
      → Line t p w (proc n l b (first_collect F rows k i s)) e (proc n l b (first_collect F rows k i s')) none
  c1_got : {n b : ℕ} {l : Option ℕ} {F : Purpose V} {rows : Rows V} {k i : ℕ} {s : ReadPhase V} {e : Event V} {v : V}
      → ReadLine w p (rows i).location s e (got v) → suc i < k
      → Line t p w (proc n l b (first_collect F rows k i s)) e
      (proc n l b (first_collect F (changed rows i (with_first (rows i) v)) k (suc i) looks)) none
  c1_end : {n b : ℕ} {l : Option ℕ} {F : Purpose V} {rows : Rows V} {k i : ℕ} {s : ReadPhase V} {e : Event V} {v : V}
      → ReadLine w p (rows i).location s e (got v) → k ≤ suc i
      → Line t p w (proc n l b (first_collect F rows k i s)) e
      (proc n l b (second_collect F (changed rows i (with_first (rows i) v)) k t zero looks)) none
  c2_on : {n b : ℕ} {l : Option ℕ} {F : Purpose V} {rows : Rows V} {k f i : ℕ} {s s' : ReadPhase V} {e : Event V}
      → ReadLine w p (rows i).location s e (on s')
      → Line t p w (proc n l b (second_collect F rows k f i s)) e (proc n l b (second_collect F rows k f i s')) none
  c2_got : {n b : ℕ} {l : Option ℕ} {F : Purpose V} {rows : Rows V} {k f i : ℕ} {s : ReadPhase V} {e : Event V}
      {v : V} → ReadLine w p (rows i).location s e (got v) → suc i < k
      → Line t p w (proc n l b (second_collect F rows k f i s)) e
      (proc n l b (second_collect F (changed rows i (with_second (rows i) v)) k f (suc i) looks)) none
  c2_end : {n b : ℕ} {l : Option ℕ} {F : Purpose V} {rows : Rows V} {k f i : ℕ} {s : ReadPhase V} {e : Event V}
      {v : V} → ReadLine w p (rows i).location s e (got v) → k ≤ suc i
      → Line t p w (proc n l b (second_collect F rows k f i s)) e
      (proc n l b (second_id F (changed rows i (with_second (rows i) v)) k f zero)) none
  s9_on : {n b : ℕ} {l : Option ℕ} {F : Purpose V} {rows : Rows V} {k f i : ℕ} → suc i < k
      → Line t p w (proc n l b (second_id F rows k f i)) (look p)
      (proc n l b (second_id F (changed rows i (with_id_second (rows i) (w.tid (rows i).location))) k f (suc i)))
      none
  s9_again : {n b : ℕ} {l : Option ℕ} {F : Purpose V} {rows rows' : Rows V} {k f i : ℕ} → k ≤ suc i
      → rows' ≡ changed rows i (with_id_second (rows i) (w.tid (rows i).location)) → (Same rows' k → ⊥)
      → Line t p w (proc n l b (second_id F rows k f i)) (look p) (proc n l b (first_id F rows' k zero)) none
  s9_solo : {n b : ℕ} {l : Option ℕ} {rows rows' : Rows V} {k f i : ℕ} → k ≤ suc i
      → rows' ≡ changed rows i (with_id_second (rows i) (w.tid (rows i).location)) → Same rows' k
      → Line t p w (proc n l b (second_id solo rows k f i)) (look p)
      (proc n l b resting) (some (done (snapshot (places rows' 0 k)) (values (collected rows' 0 k)) f))
  s9_inside : {n b : ℕ} {l : Option ℕ} {a : ℕ} {x u v : V} {t8 : ℕ} {rows rows' : Rows V} {k f i : ℕ} → k ≤ suc i
      → rows' ≡ changed rows i (with_id_second (rows i) (w.tid (rows i).location)) → Same rows' k
      → Line t p w (proc n l b (second_id (inside a x u v t8) rows k f i)) (look p)
      (proc n l b (swap a x u v t8 rows' k f)) none
  -- KCSS: 11. If all values are as expected, its yes ends with yes, and its no begins afresh. If the first value
  -- differs it says no, with the step of 8 as effect; if another does, with the SNAPSHOT's effect.
  kcss_one : {n b a : ℕ} {x u v : V} {t8 : ℕ} {rows : Rows V} {f : ℕ} → v ≡ x → w.val a ≡ id_cell p n
      → Line t p w (proc n none b (swap a x u v t8 rows zero f)) (commit p a u)
      (proc n none b resting) (some (done (kcss_of a x u rows zero) (said true) t))
  kcss_yes : {n b a : ℕ} {x u v : V} {t8 : ℕ} {rows : Rows V} {k f : ℕ} → v ≡ x → Meets rows (suc k)
      → w.val a ≡ id_cell p n
      → Line t p w (proc n none b (swap a x u v t8 rows (suc k) f)) (commit p a u)
      (proc n none b resting) (some (done (kcss_of a x u rows (suc k)) (said true) f))
  kcss_retry : {n b a : ℕ} {x u v : V} {t8 : ℕ} {rows : Rows V} {k f : ℕ} → v ≡ x → Meets rows k
      → (w.val a ≢ id_cell p n)
      → Line t p w (proc n none b (swap a x u v t8 rows k f)) (fail p a)
      (proc n none b (attempt (for_kcss a x u rows k))) none
  kcss_first : {n b a : ℕ} {x u v : V} {t8 : ℕ} {rows : Rows V} {k f : ℕ} → (v ≢ x) → w.val a ≡ id_cell p n
      → Line t p w (proc n none b (swap a x u v t8 rows k f)) (commit p a v)
      (proc n none b resting) (some (done (kcss_of a x u rows k) (said false) t8))
  kcss_first_gone : {n b a : ℕ} {x u v : V} {t8 : ℕ} {rows : Rows V} {k f : ℕ} → (v ≢ x)
      → (w.val a ≢ id_cell p n)
      → Line t p w (proc n none b (swap a x u v t8 rows k f)) (fail p a)
      (proc n none b resting) (some (done (kcss_of a x u rows k) (said false) t8))
  kcss_other : {n b a : ℕ} {x u v : V} {t8 : ℕ} {rows : Rows V} {k f j : ℕ} → v ≡ x → j < k
      → ((rows j).first ≢ (rows j).expected) → w.val a ≡ id_cell p n
      → Line t p w (proc n none b (swap a x u v t8 rows k f)) (commit p a v)
      (proc n none b resting) (some (done (kcss_of a x u rows k) (said false) f))
  kcss_other_gone : {n b a : ℕ} {x u v : V} {t8 : ℕ} {rows : Rows V} {k f j : ℕ} → v ≡ x → j < k
      → ((rows j).first ≢ (rows j).expected) → (w.val a ≢ id_cell p n)
      → Line t p w (proc n none b (swap a x u v t8 rows k f)) (fail p a)
      (proc n none b resting) (some (done (kcss_of a x u rows k) (said false) f))
