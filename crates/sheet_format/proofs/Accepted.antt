-- What an accepted layout says of the parts.
use Rattle.std.proofs.Common.{◌≡◌, ℕ, ◌+◌, ◌≤◌, true, eqb, leb, List, [], ◌∷◌, length, Ok, sym, refl, ap, ◌∙◌, arith}
use Rattle.std.proofs.lemmas.Bool.{leb-true, le-leb, eqb-true, eq-eqb}
use Rattle.sheet_format.specs.declared.fault.SheetRefusal.TheVariants.{WrongScript}
use Rattle.sheet_format.specs.declared.parts.ScriptItem.{ScriptItem}
use Rattle.sheet_format.specs.Faults.{fault}
use Rattle.sheet_format.specs.Parts.{Parts}
use Rattle.sheet_format.specs.Format.{operations_at, script_at, total}
use Rattle.sheet_format.specs.Reading.{within, starts}
use Rattle.sheet_format.specs.Writing.{writable, operations_end, script_end, layout_answer, write_answer}
use Rattle.sheet_format.proofs.Counts.{true_within, within_true}
use Rattle.sheet_format.proofs.Steps.{ok_same, pass, passed, go_on, begun}
use Rattle.sheet_format.proofs.ReadOperations.{ends}

script_ends : (at end : ℕ) (items : List ScriptItem) → script_end at items ≡ Ok end → end ≡ at + length items
unfolding script_end
script_ends at end [] h = omega (arith, ok_same at end h)
script_ends at end (i ∷ items) h =
    let p = passed (writable i) (fault WrongScript at) (script_end (at + 1) items) end h in
    omega (arith, script_ends (at + 1) end items p.1)

module _ {V : Type 0} (p : Parts V) where
  pub record Laid : Type 0 where
    pub locations : (1 ≤ length p.initial) × (length p.initial ≤ 256)
    pub processes : (1 ≤ p.processes) × (p.processes ≤ 32)
    pub items : length p.script ≤ 65535
    pub operations : operations_end (operations_at p) 4096 p.operations ≡ Ok (script_at p)
    pub script : script_end (script_at p) p.script ≡ Ok (total p)
    pub begins : starts p.script ≡ length p.operations

  laid_by : (o s : ℕ) → within 1 256 (length p.initial) ≡ true → within 1 32 p.processes ≡ true → leb (length p.script) 65535 ≡ true
      → operations_end (operations_at p) 4096 p.operations ≡ Ok o → script_end o p.script ≡ Ok s → eqb (starts p.script) (length p.operations) ≡ true → Laid × (s ≡ total p)
  laid_by o s l q n f g m =
      let at : o ≡ script_at p = (ends (operations_at p) 4096 o p.operations f).0 in
      let end : s ≡ total p = script_ends o s p.script g ∙ ap (λ k. k + length p.script) at in (
        record {
          locations = within_true 1 256 (length p.initial) l;
          processes = within_true 1 32 p.processes q;
          items = leb-true (length p.script) 65535 n;
          operations = f ∙ ap Ok at;
          script = ap (λ k. script_end k p.script) (sym at) ∙ g ∙ ap Ok end;
          begins = eqb-true (starts p.script) (length p.operations) m;
        },
        end,
      )

  pub laid_out : (t : ℕ) → layout_answer p ≡ Ok t → Laid × (t ≡ total p)
  unfolding layout_answer
  laid_out t e =
      let a = passed (within 1 256 (length p.initial)) _ _ t e in
      let b = passed (within 1 32 p.processes) _ _ t a.1 in
      let c = passed (leb (length p.script) 65535) _ _ t b.1 in
      let o = begun (operations_end (operations_at p) 4096 p.operations) _ t c.1 in
      let s = begun (script_end o.value p.script) _ t o.rest_is in
      let d = passed (eqb (starts p.script) (length p.operations)) _ (Ok s.value) t s.rest_is in
      let l = laid_by o.value s.value a.0 b.0 c.0 o.first_is s.first_is d.0 in
      (l.0, omega (arith, ok_same s.value t d.1, l.1))

  pub laid : (n room : ℕ) → write_answer p room ≡ Ok n → Laid × (n ≡ total p)
  unfolding write_answer
  laid n room e =
      let whole = begun (layout_answer p) _ n e in
      let last = passed (leb whole.value room) _ (Ok whole.value) n whole.rest_is in
      let l = laid_out whole.value whole.first_is in
      (l.0, omega (arith, ok_same whole.value n last.1, l.1))

  pub accepted : (room : ℕ) → Laid → total p ≤ room → write_answer p room ≡ Ok (total p)
  unfolding write_answer layout_answer
  accepted room l h =
      go_on (layout_answer p) _ (total p) (Ok (total p))
      (pass (within 1 256 (length p.initial)) _ _ _ (true_within 1 256 _ l.locations.0 l.locations.1)
      (pass (within 1 32 p.processes) _ _ _ (true_within 1 32 _ l.processes.0 l.processes.1)
      (pass (leb (length p.script) 65535) _ _ _ (le-leb _ _ l.items)
      (go_on (operations_end (operations_at p) 4096 p.operations) _ (script_at p) _ l.operations
      (go_on (script_end (script_at p) p.script) _ (total p) _ l.script
      (pass (eqb (starts p.script) (length p.operations)) _ _ _ (eq-eqb _ _ l.begins) refl))))))
      (pass (leb (total p) room) _ _ _ (le-leb (total p) room h) refl)
