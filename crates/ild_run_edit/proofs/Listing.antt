-- Blocks among others: those that are short, and those that stand at places in a value.
use Rattle.std.proofs.Common.{cond, ◌≡◌, ℕ, zero, ◌≤◌, ◌<◌, List, [], ◌∷◌, ◌++◌, length, Bool, true, false, ◌||◌, Option, Some, refl, ap, sym, subst, ◌∙◌, arith}
use Rattle.std.specs.Prelude.{Contains, IsSome, nat_le}
use Rattle.std.specs.List.{AllByRecursion}
use Rattle.std.specs.Option.{option_map_or}
use Rattle.std.proofs.lemmas.Bool.Decides.{nat_tests}
use Rattle.std.proofs.lemmas.List.Elements.{Contains-append_left}
use Rattle.ild_bulk.specs.Build.{any_long, is_long}
use Rattle.ild_bulk_places.specs.Leaving.{HasPlaceHeld}
use Rattle.ild_data.proofs.AllOf.{all_contained, contains_more}
use Rattle.ild_data.specs.Data.{Data}
use Rattle.ild_data.specs.Key.{same_text}
use Rattle.ild_data.specs.Limits.{longest_block}
use Rattle.ild_data.specs.Spell.{id_of, spell}
use Rattle.ild_edges.specs.Store.{block_at}
use Rattle.ild_open_held.specs.Held.{IsHeldBlock}
use Rattle.ild_path_places.proofs.Along.{all_listed, ids_at}
use Rattle.ild_schema.specs.Slots.{plainly}
use Rattle.ild_schema.specs.Value.{Value}
use Rattle.ild_schema.specs.declared.number.TypeNo.{TypeNo}
use Rattle.ild_schema.specs.declared.row.Row.{Row}
use Rattle.ild_script_meaning.specs.Lines.{short}
use Rattle.ild_script_session.specs.Step.{IsWhole}
use Rattle.ild_typed.proofs.Index.{own_text}
use Rattle.ild_typed.proofs.Rooms.{all_more}
use Rattle.ild_typed.specs.Hamt.{whole}
use Rattle.ild_typed.specs.Represented.{represented}
use Rattle.ild_typed.specs.Stands.{Frame}
use Rattle.ild_typed_places.proofs.Linked.{each_joined}
use Rattle.ild_typed_places.proofs.Listing.{all_mapped}
use Rattle.ild_typed_places.specs.Parts.{LieIn}
use Rattle.ild_typed_places.specs.Places.{Place, Places, children_at, children_in, each_place, joined, leaves, places_in, tops, value_places}
use Rattle.ild_run_edit.proofs.Settling.{small}

-- ---- short ones

all_short : (bs : List (List ℕ)) → AllByRecursion (λ b. length b ≤ longest_block → Contains (short bs) b) bs
all_short [] = tt
all_short (c ∷ bs) = by (nat_le (length c) longest_block) refl (all_short bs) where
  by : (t : Bool) → nat_le (length c) longest_block ≡ t → AllByRecursion (λ b. length b ≤ longest_block → Contains (short bs) b) bs
      → (length c ≤ longest_block → Contains (cond t (c ∷ short bs) (short bs)) c) × AllByRecursion (λ b. length b ≤ longest_block → Contains (cond t (c ∷ short bs) (short bs)) b) bs
  by true is rest = (
    (λ le. (zero, omega arith, refl)),
    all_more (λ b. length b ≤ longest_block → Contains (short bs) b) (λ b. length b ≤ longest_block → Contains (c ∷ short bs) b) (λ b f le. contains_more c (short bs) b (f le)) bs rest,
  )
  by false is rest = ((λ le. let e : false ≡ true = sym is ∙ small (length c) longest_block le in absurd cc), rest)

-- one of these that is too long
pub long_one : (bs : List (List ℕ)) → any_long bs ≡ true → (b : List ℕ) × Contains bs b × (longest_block < length b)
long_one [] e = absurd cc
long_one (c ∷ bs) e = by (is_long c) refl e (λ g. long_one bs g) where
  by : (t : Bool) → is_long c ≡ t → (t || any_long bs) ≡ true → (any_long bs ≡ true → (b : List ℕ) × Contains bs b × (longest_block < length b)) → (b : List ℕ) × Contains (c ∷ bs) b × (longest_block < length b)
  by true is g rest = (c, (zero, omega arith, refl), grind (arith, nat_tests, is))
  by false is g rest = let x = rest g in (x.0, contains_more c bs x.0 x.1, x.2)

-- ---- those that are held

pub held_blocks : (block : List ℕ → Option (List ℕ)) (bs : List (List ℕ)) → AllByRecursion (λ b. length b ≤ longest_block) bs → AllByRecursion (λ b. block (id_of b) ≡ Some b) bs → AllByRecursion (IsHeldBlock block) bs
held_blocks block [] sized held = tt
held_blocks block (b ∷ bs) sized held = (record { short = sized.0; there = held.0 }, held_blocks block bs sized.1 held.1)

is_there : (o : Option (List ℕ)) (b : List ℕ) → o ≡ Some b → IsSome o
is_there o b e = subst IsSome (sym e) refl

-- ---- those at places

module _ (f : Frame) (h : List ℕ → List ℕ) (rows : List Row) (n : TypeNo) (c : Value) (u : Data) where
  -- a place in the value is one of its places
  place_within : (x : Place) → Contains (each_place (places_in h rows (plainly n) c)) x → Contains (each_place (value_places f h rows n c u)) x
  place_within x here =
      let ps = places_in h rows (plainly n) c in
      let beneath = joined ps (leaves f.beside) in
      let a : Contains (each_place beneath) x = subst (λ (l : List Place). Contains l x) (sym (each_joined ps (leaves f.beside))) (Contains-append_left (each_place ps) (each_place (leaves f.beside)) x here) in
      contains_more (spell (f.wrap u), beneath) (each_place beneath ++ []) x (Contains-append_left (each_place beneath) [] x a)

  -- where a block stands with its children held at a place in a part, it does so in the value
  pub placed_whole : (qs : Places) (now : List (List ℕ)) (b : List ℕ) → represented (whole h) rows (plainly n) c ≡ Some u → LieIn qs (places_in h rows (plainly n) c) → HasPlaceHeld qs now b → IsWhole now (children_in f h rows n c b)
  placed_whole qs now b tree lie x =
      let ps = value_places f h rows n c u in
      let same : same_text b (x.at).0 ≡ true = subst (λ a. same_text b a ≡ true) (sym x.is) (own_text b) in
      let listed = all_contained (λ r. same_text b r.0 ≡ true → Contains (children_at ps b) (ids_at r)) (each_place ps) x.at (all_listed b (each_place ps)) (place_within x.at (lie x.at x.among)) same in
      record {
        ids = ids_at x.at;
        place = subst (λ l. Contains l (ids_at x.at)) (sym (ap (λ o. option_map_or (λ d. children_at (value_places f h rows n c d) b) o []) tree)) listed;
        children = all_mapped (λ id. IsSome (block_at now id)) id_of (tops (x.at).1)
            (all_more (λ a. block_at now (id_of a) ≡ Some a) (λ a. IsSome (block_at now (id_of a))) (λ a e. is_there (block_at now (id_of a)) a e) (tops (x.at).1) x.children);
      }
