-- The blocks of a way that is planned, put.
use Rattle.std.proofs.Common.{◌≡◌, inr, ℕ, Bool, List, ◌∷◌, sym, ap, ◌∙◌, subst}
use Rattle.std.specs.Prelude.{◌||◌, false, Result, Ok, Err}
use Rattle.ild_data.specs.Data.{Data}
use Rattle.ild_data.specs.declared.hamt_shape.HamtShape.{HamtShape}
use Rattle.ild_edges.specs.Store.{Moment}
use Rattle.ild_bulk.specs.Build.{is_long, any_long}
use Rattle.ild_bulk.specs.Putting.{PutsAll}
use Rattle.ild_node_slots.specs.declared.fault.HamtFault.{HamtFault}
use Rattle.ild_node_slots.specs.declared.fault.HamtFault.TheVariants as F
use Rattle.ild_hamt_climb.specs.Planning.{PutsWay}
use Rattle.ild_hamt_climb.specs.Rewriting.{HasRoot, StopsAt, Rewrites, way_up}

-- a put that ended with a fault
pub stopped : (h : List ℕ → List ℕ) (p : HamtShape) (k : List ℕ) (es : List (List ℕ × Data)) (m : Moment) (e : HamtFault) (n : Moment) → StopsAt h p k es m e n → Rewrites h p k es m (Err e) n
stopped h p k es m F.Exhausted n stops = absurd stops.puts.answer
stopped h p k es m F.NoKey n stops = absurd stops.puts.answer
stopped h p k es m F.Size n stops = absurd stops.puts.answer
stopped h p k es m F.Memory n stops = inr stops
stopped h p k es m (F.Block id why) n stops = stops
stopped h p k es m F.Store n stops = stops
stopped h p k es m (F.Clash id kept new) n stops = stops

-- the test of all blocks
pub is-long : (root : List ℕ) (plan : List (List ℕ)) (a b both : Bool) → a ≡ is_long root → b ≡ any_long plan → (a || b) ≡ both → any_long (root ∷ plan) ≡ both
is-long root plan a b both one all sums = (λ i. sym one i || sym all i) ∙ sums

pub stopped-way : (root : List ℕ) (plan : List (List ℕ)) (m : Moment) (e : HamtFault) (n : Moment) → any_long (root ∷ plan) ≡ false → PutsAll m plan (Err e) n → PutsWay root plan m (Err e) n
stopped-way root plan m F.Exhausted n short puts = (short, puts)
stopped-way root plan m F.NoKey n short puts = (short, puts)
stopped-way root plan m F.Size n short puts = absurd puts.answer
stopped-way root plan m F.Memory n short puts = (short, puts)
stopped-way root plan m (F.Block id why) n short puts = (short, puts)
stopped-way root plan m F.Store n short puts = (short, puts)
stopped-way root plan m (F.Clash id kept new) n short puts = (short, puts)

-- ---- where the planned nodes are those of a key's way in a trie

on-way : (p : HamtShape) (h : List ℕ → List ℕ) (k : List ℕ) (fs : List (List ℕ × Data)) (root : List ℕ) (plan : List (List ℕ)) (m : Moment) (e : HamtFault) (n : Moment) → HasRoot h p fs root → plan ≡ way_up h p k fs
    → any_long (root ∷ plan) ≡ false → PutsAll m plan (Err e) n → Rewrites h p k fs m (Err e) n
on-way p h k fs root plan m e n has is short puts = stopped h p k fs m e n (record {
  root = root;
  has = has;
  short = ap (λ bs. any_long (root ∷ bs)) (sym is) ∙ short;
  puts = subst (λ (bs : List (List ℕ)). PutsAll m bs (Err e) n) is puts;
})

pub way-rewrites : (p : HamtShape) (h : List ℕ → List ℕ) (k : List ℕ) (fs : List (List ℕ × Data)) (root : List ℕ) (plan : List (List ℕ)) (m : Moment) (r : Result (List ℕ) HamtFault) (n : Moment) → HasRoot h p fs root → plan ≡ way_up h p k fs
    → PutsWay root plan m r n → Rewrites h p k fs m r n
way-rewrites p h k fs root plan m (Ok b) n has is puts =
    subst (λ (x : List ℕ). Rewrites h p k fs m (Ok x) n) (sym puts.0)
    (has, ap (λ bs. any_long (root ∷ bs)) (sym is) ∙ puts.1, subst (λ (bs : List (List ℕ)). PutsAll m bs (Ok tt) n) is puts.2)
way-rewrites p h k fs root plan m (Err F.Size) n has is puts = (record { root = root; has = has; long = ap (λ bs. any_long (root ∷ bs)) (sym is) ∙ puts.0 }, puts.1)
way-rewrites p h k fs root plan m (Err F.Exhausted) n has is puts = on-way p h k fs root plan m F.Exhausted n has is puts.0 puts.1
way-rewrites p h k fs root plan m (Err F.NoKey) n has is puts = on-way p h k fs root plan m F.NoKey n has is puts.0 puts.1
way-rewrites p h k fs root plan m (Err F.Memory) n has is puts = on-way p h k fs root plan m F.Memory n has is puts.0 puts.1
way-rewrites p h k fs root plan m (Err (F.Block id why)) n has is puts = on-way p h k fs root plan m (F.Block id why) n has is puts.0 puts.1
way-rewrites p h k fs root plan m (Err F.Store) n has is puts = on-way p h k fs root plan m F.Store n has is puts.0 puts.1
way-rewrites p h k fs root plan m (Err (F.Clash id kept new)) n has is puts = on-way p h k fs root plan m (F.Clash id kept new) n has is puts.0 puts.1
