-- Proofs of what the laws of work on roots ask: one value stands under a root in a store, and goes on standing.
use Rattle.std.proofs.Common.{◌≡◌, ℕ, List, Option, Some, None, refl, sym, ◌∙◌, subst, le_refl}
use Rattle.std.proofs.Math.Logic.{∥∥₁_elim}
use Rattle.std.proofs.lemmas.Bool.{false≢true}
use Rattle.std.specs.Coded.{Coded-set}
use Rattle.std.specs.Prelude.{is_some, IsTrue}
use Rattle.ild_data.specs.Limits.{deepest}
use Rattle.ild_data.specs.Spell.{id_of}
use Rattle.ild_edges.specs.Store.{Moment, Later, Keeps, block_at}
use Rattle.ild_edges.specs.Told.{BothTold}
use Rattle.ild_edges.proofs.Later.{Later-refl, Later-trans}
use Rattle.ild_heads.specs.Work.{Stays}
use Rattle.ild_schema.specs.Value.{Value}
use Rattle.ild_schema.specs.ValueCode.{value_code}
use Rattle.ild_script_session.proofs.Steps.{all_keeps}
use Rattle.ild_typed.proofs.TreeKept.{one_stands}
use Rattle.ild_typed.specs.Schema.{IsSchema}
use Rattle.ild_typed.specs.Stands.{IsFrame, bare, blocks_of}
use Rattle.ild_run_open.specs.Empty.{IsEmpty}
use Rattle.ild_run_work.specs.Roots.{IsEmptyRoot}
use Rattle.ild_run_work.specs.Rules.{Rules, RootRules, StandsAmong, StandsIn}
use Rattle.ild_run_work.specs.Runs.{GoesOn}

pub some_told : {A : Type 0} (o : Option A) → IsTrue (is_some o) → (a : A) × (o ≡ Some a)
some_told None y = absurd (false≢true y)
some_told (Some a) y = (a, refl)

bare_is_frame : IsFrame bare
bare_is_frame = record { less = le_refl deepest; apart = λ c d same. same; fits = λ d fits. fits; blocks = tt }

pub one_among : (rules : Rules) (held : List (List ℕ)) (root : List ℕ) (u v : Value) → IsSchema rules.rows → StandsAmong rules held root u → StandsAmong rules held root v → u ≡ v
one_among rules held root u v schema x y = one_stands bare bare_is_frame (block_at held) id_of rules.rows schema rules.ty root u v x y

pub one_value : (rules : Rules) (m : Moment) → ∥ IsSchema rules.rows ∥₁ → (root : List ℕ) (u v : Value) → IsTrue (is_some m.blocks) → StandsIn rules m root u → StandsIn rules m root v → u ≡ v
one_value rules m schema root u v told x y =
    let held = some_told m.blocks told in
    ∥∥₁_elim schema (Coded-set value_code u v) (λ s. one_among rules held.0 root u v s (x.there held.0 held.1) (y.there held.0 held.1))

-- ---- later

told_same : (a b : Option (List (List ℕ))) → BothTold a b Keeps → is_some b ≡ is_some a
told_same None None keeps = refl
told_same (Some x) (Some y) keeps = refl
told_same None (Some y) keeps = absurd keeps
told_same (Some x) None keeps = absurd keeps

keeps_on : (a b : Option (List (List ℕ))) (was now : List (List ℕ)) → a ≡ Some was → b ≡ Some now → BothTold a b Keeps → Keeps was now
keeps_on a b was now p q keeps = subst (λ o. BothTold (Some was) o Keeps) q (subst (λ o. BothTold o b Keeps) p keeps)

pub among_on : (rules : Rules) (was now : List (List ℕ)) (root : List ℕ) (v : Value) → Keeps was now → StandsAmong rules was root v → StandsAmong rules now root v
among_on rules was now root v keeps st = record { tree = st.tree; storable = st.storable; root = st.root; all = all_keeps was now (blocks_of bare id_of rules.rows rules.ty v st.tree) keeps st.all }

pub later_stays : (rules : Rules) (m n : Moment) → Later m n → Stays (is_some m.blocks) (StandsIn rules m) (is_some n.blocks) (StandsIn rules n)
later_stays rules m n later = record {
  same = told_same m.blocks n.blocks later.keeps;
  stood = λ root v told x. let was = some_told m.blocks told in record {
    there = λ now is. among_on rules was.0 now root v (keeps_on m.blocks n.blocks was.0 now was.1 is later.keeps) (x.there was.0 was.1);
  };
}

pub goes_on_same : (a : RootRules) (m : Moment) → GoesOn a a m m
goes_on_same a m = record { same = refl; later = Later-refl m }

pub goes_on_then : (a b c : RootRules) (m k n : Moment) → GoesOn a b m k → GoesOn b c k n → GoesOn a c m n
goes_on_then a b c m k n p q = record { same = q.same ∙ p.same; later = Later-trans m k n p.later q.later }

-- the root of the empty value stays one
empty_later : (rules : Rules) (m n : Moment) (root : List ℕ) → Later m n → IsEmptyRoot rules m root → (o : Option (List (List ℕ))) → m.blocks ≡ o → (now : List (List ℕ)) → n.blocks ≡ Some now
    → (v : Value) × StandsAmong rules now root v × IsEmpty rules.rows rules.ty v
empty_later rules m n root later x (Some was) is now told =
    let v = x.there was is in
    (v.0, among_on rules was now root v.0 (keeps_on m.blocks n.blocks was now is told later.keeps) v.1, v.2)
empty_later rules m n root later x None is now told = let bad : BothTold None (Some now) Keeps = subst (λ o. BothTold o (Some now) Keeps) is (subst (λ o. BothTold m.blocks o Keeps) told later.keeps) in absurd bad

pub empty_on : (a b : RootRules) (m n : Moment) (root : List ℕ) → GoesOn a b m n → IsEmptyRoot a.rules m root → IsEmptyRoot b.rules n root
empty_on a b m n root on x = subst (λ (r : RootRules). IsEmptyRoot r.rules n root) (sym on.same) (record { there = λ now told. empty_later a.rules m n root on.later x m.blocks refl now told })
