-- Root blocks: the value that their data represent is the one that stands under their id.
use Rattle.std.proofs.Common.{◌≡◌, ℕ, ◌+◌, ◌≤◌, List, [], ◌∷◌, length, append-nil, Option, Some, refl, sym, ap, subst, arith}
use Rattle.std.specs.List.{AllByRecursion}
use Rattle.ild_data.proofs.AllOf.{all_split}
use Rattle.ild_data.specs.Data.{Data}
use Rattle.ild_data.specs.Limits.{deepest, longest_block}
use Rattle.ild_data.specs.Spell.{id_of, spell}
use Rattle.ild_schema.specs.declared.number.TypeNo.{TypeNo}
use Rattle.ild_schema.specs.declared.row.Row.{Row}
use Rattle.ild_schema.specs.Slots.{plainly}
use Rattle.ild_schema.specs.Value.{Value}
use Rattle.ild_typed.specs.Blocks.{nodes}
use Rattle.ild_typed.specs.Stands.{Stands, bare, blocks_of}
use Rattle.ild_typed.proofs.Rooms.{all_more}
use Rattle.ild_open_held.specs.Held.{IsHeld, IsHeldBlock}
use Rattle.ild_open_held.specs.Roots.{HeldStand, StandingAreHeld}

module _ (block : List ℕ → Option (List ℕ)) (h : List ℕ → List ℕ) (rows : List Row) (n : TypeNo) where
  abbrev Own : Value → List (List ℕ)
  Own v = nodes h rows (plainly n) v

  pub stands_where : (t : Data) (v : Value) → length (spell t) ≤ longest_block → block (id_of (spell t)) ≡ Some (spell t) → IsHeld block h rows deepest (plainly n) t v → Stands bare block h rows n (id_of (spell t)) v
  stands_where t v sized here has = record {
    tree = t;
    storable = record {
      fits = has.fits;
      tree = has.tree;
      sized = (sized, subst (AllByRecursion (λ b. length b ≤ longest_block)) (sym (append-nil (Own v))) (all_more (IsHeldBlock block) (λ b. length b ≤ longest_block) (λ b x. x.short) (Own v) has.held));
    };
    root = refl;
    all = (here, subst (AllByRecursion (λ b. block (id_of b) ≡ Some b)) (sym (append-nil (Own v))) (all_more (IsHeldBlock block) (λ b. block (id_of b) ≡ Some b) (λ b x. x.there) (Own v) has.held));
  }

  both_held : (xs : List (List ℕ)) → AllByRecursion (λ b. length b ≤ longest_block) xs → AllByRecursion (λ b. block (id_of b) ≡ Some b) xs → AllByRecursion (IsHeldBlock block) xs
  both_held [] a b = tt
  both_held (x ∷ xs) a b = (record { short = a.0; there = b.0 }, both_held xs a.1 b.1)

  pub held_where : (id : List ℕ) (v : Value) (st : Stands bare block h rows n id v) → IsHeld block h rows deepest (plainly n) st.tree v
  held_where id v st =
      let sized = (all_split (λ b. length b ≤ longest_block) (Own v) [] st.storable.sized.1).0 in
      let there = (all_split (λ b. block (id_of b) ≡ Some b) (Own v) [] st.all.1).0 in
      record { fits = st.storable.fits; tree = st.storable.tree; held = both_held (Own v) sized there }

  pub root_there : (id : List ℕ) (v : Value) (st : Stands bare block h rows n id v) → block id ≡ Some (spell st.tree)
  root_there id v st = subst (λ k. block k ≡ Some (spell st.tree)) (sym st.root) st.all.0

  pub root_many : (id : List ℕ) (v : Value) (st : Stands bare block h rows n id v) → length (blocks_of bare h rows n v st.tree) ≡ 1 + length (Own v)
  root_many id v st = let e = ap length (append-nil (Own v)) in omega (arith, e)

pub held_stand : HeldStand
held_stand = λ block h rows n t v sized here has. stands_where block h rows n t v sized here has

pub standing_are_held : StandingAreHeld
standing_are_held = λ block h rows n id v st. record { held = held_where block h rows n id v st; there = root_there block h rows n id v st; many = root_many block h rows n id v st }
