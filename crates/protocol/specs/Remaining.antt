-- How many lines an operation can still make, while no other process steps: told by its phase and by the cells.
use Rattle.std.specs.Prelude.{◌≡◌, ℕ, zero, suc, ◌+◌, ◌*◌, ◌<◌, ◌≤◌, ◌⊎◌, ◌≢◌}
use Rattle.memory.specs.declared.cell.Cell.{Cell}
use Rattle.memory.specs.declared.cell.Cell.TheVariants.{Value, Id}
use Rattle.protocol.specs.World.{id_cell}
use Rattle.protocol.specs.Phases.{ReadPhase, Rows, Job, place_of, Purpose, Phase, Process}
use Rattle.protocol.specs.Phases.ReadPhase.{looks, looks_again, fetches, resets}
use Rattle.protocol.specs.Phases.Job.{for_ll, for_kcss}
use Rattle.protocol.specs.Phases.Purpose.{solo, inside}
use Rattle.protocol.specs.Phases.Phase.{resting, reading, attempt, attempt_again, linking, to_save, to_mark, to_note}
use Rattle.protocol.specs.Phases.Phase.{swap_sc, first_id, first_collect, second_collect, second_id, swap}
use Rattle.protocol.specs.Phases.Process.{proc}

-- The lines of a READ that begins now, by what its val holds: 13 alone, or 13, 1, 3a, 3b and 13.
abbrev pub cost : {V : Type 0} → Cell V → ℕ
cost (Value v) = 1
cost (Id k) = 5

-- The same, from line 1 on.
abbrev pub cost_again : {V : Type 0} → Cell V → ℕ
cost_again (Value v) = 2
cost_again (Id k) = 4

-- The READs of the first k operands, if all began now.
abbrev pub costs : {V : Type 0} → (ℕ → Cell V) → Rows V → ℕ → ℕ
costs val rows zero = 0
costs val rows (suc k) = costs val rows k + cost (val (rows k).location)

-- A READ has at most r lines left: its kept id still stands, or 3b will find another cell.
abbrev pub Reads : {V : Type 0} → (val : ℕ → Cell V) (location : ℕ) → ReadPhase V → ℕ → Type 0
Reads val a looks r = cost (val a) ≤ r
Reads val a looks_again r = cost_again (val a) ≤ r
Reads val a (fetches k) r = (7 ≤ r) ⊎ ((val a ≡ Id k) × (3 ≤ r))
Reads val a (resets k v) r = (6 ≤ r) ⊎ ((val a ≡ Id k) × (2 ≤ r))

-- The location is not among those of the first k operands.
abbrev pub Off : {V : Type 0} → ℕ → Rows V → ℕ → Type 0
Off a rows k = (j : ℕ) → j < k → (rows j).location ≢ a

-- The first location of a KCSS is not among the others.
abbrev pub JobFits : {V : Type 0} → Job V → Type 0
JobFits (for_ll a) = Unit {0}
JobFits (for_kcss a x u rows k) = Off a rows k

-- The same where a SNAPSHOT of k operands is made: for a KCSS, its first location is not among them.
abbrev pub PurposeFits : {V : Type 0} → Purpose V → Rows V → ℕ → Type 0
PurposeFits solo rows k = Unit {0}
PurposeFits (inside a x u v t8) rows k = Off a rows k

-- The lines after 9, if the mark of 8 stands then: none for an LL; a SNAPSHOT in one pass and 11 for a KCSS.
abbrev pub beyond : {V : Type 0} → (ℕ → Cell V) → Job V → ℕ
beyond val (for_ll a) = 0
beyond val (for_kcss a x u rows k) = costs val rows k + 3 * k + 1

-- The same, if the mark may be gone: then 11 says no, and all begins afresh.
abbrev pub beyond_lost : {V : Type 0} → (ℕ → Cell V) → Job V → ℕ
beyond_lost val (for_ll a) = 0
beyond_lost val (for_kcss a x u rows k) = costs val rows k + 7 * k + 10

-- The lines after a SNAPSHOT of k operands, all of them values: none if it is for itself; 11 if the mark stands; else
-- 11, an LL, the SNAPSHOT once more, and 11.
abbrev pub Rest : {V : Type 0} → (val : ℕ → Cell V) (p n : ℕ) → Purpose V → (count : ℕ) → ℕ → Type 0
Rest val p n solo k E = E ≡ 0
Rest val p n (inside a x u v t8) k E = (E ≡ 4 * k + 10) ⊎ ((val a ≡ id_cell p n) × (E ≡ 1))

-- The tids of the first i operands are those that S6 found; their vals hold the values of the first collect; those of
-- the second are the same; and so are the ids that S9 found.
abbrev pub IdsStand : {V : Type 0} → (tid : ℕ → Cell V) → Rows V → ℕ → Type 0
IdsStand tid rows i = (j : ℕ) → j < i → tid (rows j).location ≡ (rows j).id_first

-- The vals of the first i operands hold the values that the first collect found.
abbrev pub FirstsStand : {V : Type 0} → (val : ℕ → Cell V) → Rows V → ℕ → Type 0
FirstsStand val rows i = (j : ℕ) → j < i → val (rows j).location ≡ Value (rows j).first

-- Of the first i operands both collects found the same values.
abbrev pub ValuesAgree : {V : Type 0} → Rows V → ℕ → Type 0
ValuesAgree rows i = (j : ℕ) → j < i → (rows j).first ≡ (rows j).second

-- Of the first i operands S6 and S9 found the same ids.
abbrev pub IdsAgree : {V : Type 0} → Rows V → ℕ → Type 0
IdsAgree rows i = (j : ℕ) → j < i → (rows j).id_first ≡ (rows j).id_second

-- In this phase process p, with tag n, has at most N lines left. In each phase of a SNAPSHOT there are two cases: what
-- it has found may be out of date, so that it may make a second pass, or all of it still stands.
abbrev pub LeftIn : {V : Type 0} → (val tid : ℕ → Cell V) (p n : ℕ) → Phase V → ℕ → Type 0
LeftIn val tid p n resting N = ⊥
LeftIn val tid p n (reading a s) N = Reads val a s N
LeftIn val tid p n (attempt J) N = JobFits J × (cost (val (place_of J)) + 3 + beyond val J ≤ N)
LeftIn val tid p n (attempt_again J) N = JobFits J × (cost (val (place_of J)) + 3 + beyond val J ≤ N)
LeftIn val tid p n (linking J s) N =
    JobFits J × (r : ℕ) × Reads val (place_of J) s r × (r + 3 + beyond val J ≤ N)
LeftIn val tid p n (to_save J v) N =
    JobFits J × ((10 + beyond val J ≤ N) ⊎ ((val (place_of J) ≡ Value v) × (3 + beyond val J ≤ N)))
LeftIn val tid p n (to_mark J v) N =
    JobFits J × ((9 + beyond val J ≤ N) ⊎ ((val (place_of J) ≡ Value v) × (2 + beyond val J ≤ N)))
LeftIn val tid p n (to_note J v t8) N =
    JobFits J × ((1 + beyond_lost val J ≤ N) ⊎ ((val (place_of J) ≡ id_cell p n) × (1 + beyond val J ≤ N)))
LeftIn val tid p n (swap_sc a u) N = 1 ≤ N
LeftIn val tid p n (first_id F rows k i) N =
    PurposeFits F rows k × (i < k) × (E : ℕ) × Rest val p n F k E
    × ((costs val rows k + 7 * k + E ≤ N + i) ⊎ (IdsStand tid rows i × (costs val rows k + 3 * k + E ≤ N + i)))
LeftIn val tid p n (first_collect F rows k i s) N =
    PurposeFits F rows k × (i < k) × (E : ℕ) × Rest val p n F k E × (r : ℕ) × Reads val (rows i).location s r
    × ((r + costs val rows k + 6 * k + E ≤ N + cost (val (rows i).location) + i)
    ⊎ (IdsStand tid rows k × FirstsStand val rows i
    × (r + costs val rows k + 2 * k + E ≤ N + cost (val (rows i).location) + i)))
LeftIn val tid p n (second_collect F rows k f i s) N =
    PurposeFits F rows k × (i < k) × (E : ℕ) × Rest val p n F k E
    × (((r : ℕ) × Reads val (rows i).location s r
    × (r + costs val rows k + 5 * k + E ≤ N + cost (val (rows i).location) + i))
    ⊎ ((s ≡ looks) × IdsStand tid rows k × FirstsStand val rows k × ValuesAgree rows i × (2 * k + E ≤ N + i)))
LeftIn val tid p n (second_id F rows k f i) N =
    PurposeFits F rows k × (i < k) × (E : ℕ) × Rest val p n F k E
    × ((costs val rows k + 4 * k + E ≤ N + i)
    ⊎ (IdsStand tid rows k × FirstsStand val rows k × ValuesAgree rows k × IdsAgree rows i × (k + E ≤ N + i)))
LeftIn val tid p n (swap a x u v t8 rows k f) N =
    Off a rows k × ((costs val rows k + 3 * k + 10 ≤ N) ⊎ ((val a ≡ id_cell p n) × (1 ≤ N)))

-- Process p has at most N lines left, by its tag and its phase.
abbrev pub Left : {V : Type 0} → (val tid : ℕ → Cell V) (p : ℕ) → Process V → ℕ → Type 0
Left val tid p (proc n l b ph) N = LeftIn val tid p n ph N
