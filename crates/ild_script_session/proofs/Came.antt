-- What a put of one block leaves: which blocks came, and what is held.
use Rattle.std.proofs.Common.{◌≡◌, ◌⊎◌, ℕ, ◌+◌, ◌≤◌, List, [], ◌∷◌, Bool, true, false, Option, Some, None, Ok, Err, refl, sym, ap, ◌∙◌, subst, inl, inr, arith}
use Rattle.std.specs.Prelude.{Contains}
use Rattle.std.proofs.lemmas.Option.{same_Some}
use Rattle.std.specs.Cmp.Lexicographic.{same_text as text_same, other_text}
use Rattle.ild_data.specs.Key.{same_text}
use Rattle.ild_data.specs.Spell.{id_of}
use Rattle.ild_data.specs.Bytes.{AreBytes}
use Rattle.ild_edges.specs.Count.{bumped}
use Rattle.ild_edges.specs.Gained.{CameFrom}
use Rattle.ild_edges.specs.Store.{Moment, Adds, IsFree, block_at, PutsAnswer}
use Rattle.ild_edges.specs.Told.{IfTold, BothTold}
use Rattle.ild_edges.specs.declared.error.EdgeErr.TheVariants as E
use Rattle.ild_script_session.specs.Step.{Holds, AddsOnly, AddsWhole, IsWhole, Collides}

pub contains_one : (b : List ℕ) → Contains (b ∷ []) b
contains_one b = (0, omega arith, refl)

-- each block that is held now was held, or is new in this sense
abbrev pub Came : (List ℕ → List (List ℕ) → Type 0) → List (List ℕ) → List (List ℕ) → Type 0
Came New was now = (id b : List ℕ) → block_at now id ≡ Some b → (block_at was id ≡ Some b) ⊎ New b now

-- nothing came
pub none_came : (New : List ℕ → List (List ℕ) → Type 0) (a b : Option (List (List ℕ))) → b ≡ a → BothTold a b (Came New)
none_came New None b same = subst (λ (x : Option (List (List ℕ))). BothTold None x (Came New)) (sym same) tt
none_came New (Some held) b same = subst (λ (x : Option (List (List ℕ))). BothTold (Some held) x (Came New)) (sym same) (λ id c here. inl here)

pub adds_none : (m n : Moment) (bs : List (List ℕ)) → n.blocks ≡ m.blocks → AddsOnly m n bs
adds_none m n bs same = none_came (λ b now. Contains bs b) m.blocks n.blocks same

-- ---- one list of blocks, and more

wider : (few many : List (List ℕ)) (o : List (List ℕ)) (id c : List ℕ) → ((b : List ℕ) → Contains few b → Contains many b) → (block_at o id ≡ Some c) ⊎ Contains few c → (block_at o id ≡ Some c) ⊎ Contains many c
wider few many o id c among (inl is) = inl is
wider few many o id c among (inr here) = inr (among c here)

widened : (few many : List (List ℕ)) (a b : Option (List (List ℕ))) → ((b : List ℕ) → Contains few b → Contains many b) → BothTold a b (CameFrom few) → BothTold a b (CameFrom many)
widened few many None None among told = tt
widened few many None (Some b) among told = absurd told
widened few many (Some a) None among told = absurd told
widened few many (Some a) (Some b) among told = λ id c held. wider few many a id c among (told id c held)

pub adds_wider : (m n : Moment) (few many : List (List ℕ)) → ((b : List ℕ) → Contains few b → Contains many b) → AddsOnly m n few → AddsOnly m n many
adds_wider m n few many among adds = widened few many m.blocks n.blocks among adds

before : (bs a : List (List ℕ)) (b : List (List ℕ)) (id c : List ℕ) → CameFrom bs a b → (block_at b id ≡ Some c) ⊎ Contains bs c → (block_at a id ≡ Some c) ⊎ Contains bs c
before bs a b id c first (inl is) = first id c is
before bs a b id c first (inr here) = inr here

joined : (bs : List (List ℕ)) (a b c : Option (List (List ℕ))) → BothTold a b (CameFrom bs) → BothTold b c (CameFrom bs) → BothTold a c (CameFrom bs)
joined bs None None None first then = tt
joined bs None None (Some z) first then = absurd then
joined bs None (Some y) c first then = absurd first
joined bs (Some x) None c first then = absurd first
joined bs (Some x) (Some y) None first then = absurd then
joined bs (Some x) (Some y) (Some z) first then = λ id c held. before bs x y id c first (then id c held)

pub adds_trans : (m k n : Moment) (bs : List (List ℕ)) → AddsOnly m k bs → AddsOnly k n bs → AddsOnly m n bs
adds_trans m k n bs first then = joined bs m.blocks k.blocks n.blocks first then

-- ---- one put

came_by : (t : Bool) (block : List ℕ) (was now : List (List ℕ)) → Adds block was now → (id c : List ℕ) → t ≡ same_text (id_of block) id → block_at now id ≡ Some c → (block_at was id ≡ Some c) ⊎ Contains (block ∷ []) c
came_by true block was now adds id c is held =
    let same : id_of block ≡ id = text_same (id_of block) id is in
    let one : block ≡ c = same_Some block c (sym adds.held ∙ ap (block_at now) same ∙ held) in
    inr (0, omega arith, one)
came_by false block was now adds id c is held = inl (sym (adds.others id (other_text (id_of block) id is)) ∙ held)

-- the block came
adds_block : (block : List ℕ) (a b : Option (List (List ℕ))) → BothTold a b (λ was now. Adds block was now)
    → BothTold a b (CameFrom (block ∷ []))
adds_block block None None told = tt
adds_block block None (Some b) told = absurd told
adds_block block (Some a) None told = absurd told
adds_block block (Some a) (Some b) told = λ id c held. came_by (same_text (id_of block) id) block a b told id c refl held

second : (P Q : List (List ℕ) → List (List ℕ) → Type 0) (a b : Option (List (List ℕ))) → BothTold a b (λ was now. P was now × Q was now) → BothTold a b Q
second P Q None None told = tt
second P Q None (Some b) told = absurd told
second P Q (Some a) None told = absurd told
second P Q (Some a) (Some b) told = told.1

holds_put : (block : List ℕ) (a b : Option (List (List ℕ))) → BothTold a b (λ was now. IsFree block was × Adds block was now) → IfTold b (λ held. (block_at held (id_of block) ≡ Some block) × Unit {0})
holds_put block None None told = tt
holds_put block None (Some b) told = absurd told
holds_put block (Some a) None told = absurd told
holds_put block (Some a) (Some b) told = (told.1.held, tt)

holds_kept : (kept id : List ℕ) (a b : Option (List (List ℕ))) → b ≡ a → id_of kept ≡ id → IfTold a (λ held. block_at held id ≡ Some kept) → IfTold b (λ held. (block_at held (id_of kept) ≡ Some kept) × Unit {0})
holds_kept kept id None b same one told = subst (λ (x : Option (List (List ℕ))). IfTold x (λ held. (block_at held (id_of kept) ≡ Some kept) × Unit {0})) (sym same) tt
holds_kept kept id (Some a) b same one told =
    subst (λ (x : Option (List (List ℕ))). IfTold x (λ held. (block_at held (id_of kept) ≡ Some kept) × Unit {0})) (sym same) (ap (block_at a) one ∙ told, tt)

-- a put that is Ok holds the block
pub put_holds : (m : Moment) (block : List ℕ) (n : Moment) → PutsAnswer m block (Ok None) n → Holds n (block ∷ [])
put_holds m block n answer = holds_put block m.blocks n.blocks answer.0

pub put_adds : (m : Moment) (block : List ℕ) (n : Moment) → PutsAnswer m block (Ok None) n → AddsOnly m n (block ∷ [])
put_adds m block n answer = adds_block block m.blocks n.blocks (second (λ was now. IsFree block was) (λ was now. Adds block was now) m.blocks n.blocks answer.0)

-- a put that hands other bytes back shows a collision
pub put_collides : (m : Moment) (block kept : List ℕ) (n : Moment) → PutsAnswer m block (Ok (Some kept)) n → AreBytes kept → AreBytes block → Collides n (block ∷ [])
put_collides m block kept n answer kept_bytes new_bytes = record {
  kept = kept;
  new = block;
  held = holds_kept kept (id_of block) m.blocks n.blocks answer.2 answer.0 answer.3;
  among = contains_one block;
  collide = record { kept_bytes = kept_bytes; new_bytes = new_bytes; differ = answer.1; one_id = answer.0 };
}

pub kept_adds : (m : Moment) (block kept : List ℕ) (n : Moment) → PutsAnswer m block (Ok (Some kept)) n → AddsOnly m n (block ∷ [])
kept_adds m block kept n answer = adds_none m n (block ∷ []) answer.2

failed_by : (m : Moment) (block : List ℕ) (n : Moment) → (n.blocks ≡ m.blocks) ⊎ BothTold m.blocks n.blocks (λ was now. (block_at was (id_of block) ≡ None) × Adds block was now) → AddsOnly m n (block ∷ [])
failed_by m block n (inl same) = adds_none m n (block ∷ []) same
failed_by m block n (inr told) = adds_block block m.blocks n.blocks (second (λ was now. block_at was (id_of block) ≡ None) (λ was now. Adds block was now) m.blocks n.blocks told)

pub failed_adds : (m : Moment) (block : List ℕ) (n : Moment) → PutsAnswer m block (Err E.Failed) n → AddsOnly m n (block ∷ [])
failed_adds m block n answer = failed_by m block n answer.1

pub memory_adds : (m : Moment) (block : List ℕ) (n : Moment) → PutsAnswer m block (Err E.Memory) n → AddsOnly m n (block ∷ [])
memory_adds m block n answer = adds_none m n (block ∷ []) answer.0

pub bumped_most : (n : ℕ) → bumped n ≤ n + 1
bumped_most n = omega arith

childless_by : (new : List (List ℕ)) (a b : Option (List (List ℕ))) → BothTold a b (CameFrom new)
    → BothTold a b (Came (λ c now. IsWhole now ([] ∷ [])))
childless_by new None None adds = tt
childless_by new None (Some b) adds = absurd adds
childless_by new (Some a) None adds = absurd adds
childless_by new (Some a) (Some b) adds = λ id c held. inr (record { ids = []; place = (0, omega arith, refl); children = tt })

-- blocks without children have all of them held
pub childless : (m n : Moment) (new : List (List ℕ)) → AddsOnly m n new → AddsWhole m n (λ b. [] ∷ [])
childless m n new adds = childless_by new m.blocks n.blocks adds
