-- Passing over an entry, with or without its row.
use Rattle.std.proofs.Common.{◌≡◌, ℕ, true, List, ◌∷◌, Some, refl, sym, ap, ◌∙◌}
use Rattle.std.specs.Prelude.{Result, Ok, Err, IfOk}
use Rattle.ild_data.specs.declared.hamt_shape.HamtShape.{HamtShape}
use Rattle.ild_data.specs.Spell.{spell}
use Rattle.ild_node_slots.specs.declared.fault.HamtFault.{HamtFault}
use Rattle.ild_node_slots.specs.declared.fault.HamtFault.TheVariants as F
use Rattle.ild_bulk_walker.specs.Ahead.{walker_todo}
use Rattle.ild_bulk_walker.specs.inside.Stepping.{walker_here, GivesNext, IsTaken, TakesRow, IsNextRow, IsPassed, PassesStep, Gives, AnyRow, FitsNext}
use Rattle.ild_bulk_walker.specs.Steps.{entry_key, entry_value, IsRowOf}
use Rattle.ild_bulk_walker.specs.Todo.{Todo, give}
use Rattle.ild_bulk_walker.specs.declared.row.Row.{Row}
use Rattle.ild_bulk_walker.specs.declared.step.Entry.{Entry}
use Rattle.ild_bulk_walker.specs.declared.walker.Walker.{Walker}
use Rattle.ild_bulk_walker.proofs.Nexting.{taken}

-- the row of the entry that is next
next-row : (v : Walker) (e : Entry) (row : Row) (rest : List Todo) → walker_todo v ≡ give (entry_key e) (entry_value e) e.index ∷ rest → IsRowOf e (walker_here v) row → IsNextRow v row
next-row v e row rest is of = record {
  value = entry_value e;
  index = e.index;
  rest = rest;
  was = is ∙ ap (λ (k : List ℕ). give k (entry_value e) e.index ∷ rest) (sym of.key);
  spelled = of.value;
  block = of.block;
}

pub next-row-of : {E : Type 0} (v : Walker) (e : Entry) (here : List ℕ) (rest : List Todo) → walker_todo v ≡ give (entry_key e) (entry_value e) e.index ∷ rest → here ≡ walker_here v → (r : Result Row E) → IfOk r (IsRowOf e here) → IfOk r (IsNextRow v)
next-row-of v e here rest is same (Ok row) of = next-row v e row rest is (record { key = of.key; value = of.value; block = of.block ∙ same })
next-row-of v e here rest is same (Err f) of = tt

pub taken-row-of : (v w : Walker) (row : Row) → IsNextRow v row → IsPassed v w → IsTaken v row w
taken-row-of v w row n q =
    let same : n.rest ≡ walker_todo w = let both = sym n.was ∙ q.was in cc in
    record { value = n.value; index = n.index; rest = n.rest; was = n.was; todo = sym same; spelled = n.spelled; path = q.path; given = q.given; most = q.most; children = q.children; at = q.at; block = n.block }

-- there is a row for what is next
any-row : (v : Walker) → GivesNext v → (row : Row) × IsNextRow v row
any-row v g = (record { key = g.key; value = spell g.value; block = record { 0 = walker_here v } }, record { value = g.value; index = g.index; rest = g.rest; was = g.is; spelled = refl; block = refl })

pub takes-none : (v w : Walker) (e : HamtFault) → PassesStep v (Err e) w → TakesRow v (Err e) w
takes-none v w F.Memory q = q
takes-none v w F.Exhausted q = absurd q
takes-none v w (F.Block id why) q = absurd q
takes-none v w F.Store q = absurd q
takes-none v w (F.Clash id kept new) q = absurd q
takes-none v w F.Size q = absurd q
takes-none v w F.NoKey q = absurd q

pub passed-on : (p : HamtShape) (h : List ℕ → List ℕ) (v w : Walker) → FitsNext h p v → IsPassed v w → AnyRow (λ r. Gives h p v r w) (Ok true)
passed-on p h v w f q = let r = any-row v f.next in (r.0, taken p h v w f.next (Ok (Some r.0)) f.fit (taken-row-of v w r.0 r.1 q))

pub passed-none : (p : HamtShape) (h : List ℕ → List ℕ) (v w : Walker) (e : HamtFault) → FitsNext h p v → PassesStep v (Err e) w → AnyRow (λ r. Gives h p v r w) (Err e)
passed-none p h v w e f q = taken p h v w f.next (Err e) f.fit (takes-none v w e q)
