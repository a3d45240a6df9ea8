-- The answer of an edit through HAMTs as that of an edit at a place.
use Rattle.std.proofs.Common.{◌≡◌, ◌⊎◌, inl, inr, ⊎_elim, ℕ, ◌≤◌, ◌<◌, Bool, true, false, List, ◌∷◌, length, Option, Some, None, refl, sym, ap, ◌∙◌, subst, append-nil}
use Rattle.std.specs.Prelude.{Contains, IfOk, Result, Ok, Err}
use Rattle.std.specs.List.{AllByRecursion}
use Rattle.std.proofs.lemmas.Bool.{ltb-true}
use Rattle.std.proofs.lemmas.Option.{none-some}
use Rattle.ild_edges.specs.Gained.{AreIdsGiven}
use Rattle.ild_data.specs.Data.{Data}
use Rattle.ild_data.specs.Limits.{deepest, longest_block}
use Rattle.ild_data.specs.Spell.{id_of, spell}
use Rattle.ild_edges.specs.Store.{Keeps, Moment, block_at}
use Rattle.ild_edges.specs.Told.{BothTold, IfTold}
use Rattle.ild_bulk.specs.Build.{any_long}
use Rattle.ild_edges.specs.Among.{IsIn}
use Rattle.ild_edges.proofs.Among.{IsIn-contains}
use Rattle.ild_bulk.proofs.Puts.{told-map}
use Rattle.ild_hamt.specs.Edits.{CausedBy}
use Rattle.ild_node_slots.specs.declared.fault.HamtFault.{HamtFault}
use Rattle.ild_node_slots.specs.declared.fault.HamtFault.TheVariants as H
use Rattle.ild_open_held.specs.Held.{IsHeld, IsHeldBlock}
use Rattle.ild_open_held.proofs.Roots.{held_stand}
use Rattle.ild_path_way.specs.Way.{nodes_met}
use Rattle.ild_path_ends.specs.Ends.{AddsBlocks, Came, EditsWhole, WholeAnswer}
use Rattle.ild_path_long.proofs.Parts.{parts_are_in_blocks}
use Rattle.ild_path_sizes.specs.Long.{HasLongPart}
use Rattle.ild_path_reroot.proofs.Among.{long_one}
use Rattle.ild_path.specs.inside.Pieces.{AnswersAs, names_block}
use Rattle.ild_path.proofs.Coming.{came_whole, in_short}
use Rattle.ild_path.specs.Replaces.{ReplaceAnswer, Replaces, Spares}
use Rattle.ild_path.specs.declared.fault.EditFault.{EditFault}
use Rattle.ild_schema.specs.Slots.{plainly}
use Rattle.ild_schema.specs.Value.{Value}
use Rattle.ild_schema.specs.declared.number.TypeNo.{TypeNo}
use Rattle.ild_schema.specs.declared.row.Row.{Row}
use Rattle.ild_script_meaning.specs.Lines.{short}
use Rattle.ild_script_session.specs.Step.{IsWhole}
use Rattle.ild_typed.specs.Blocks.{nodes}
use Rattle.ild_typed.specs.Fits.{Fits}
use Rattle.ild_typed.specs.Hamt.{whole}
use Rattle.ild_typed.specs.OfType.{TestsKeys}
use Rattle.ild_typed.specs.Represented.{represented}
use Rattle.ild_typed.specs.Schema.{IsSchema}
use Rattle.ild_typed.specs.Stands.{Stands, bare, blocks_of}
use Rattle.ild_typed.proofs.Rooms.{all_more}
use Rattle.ild_typed_places.specs.Places.{children_in}

-- ---- over every store

pub spares_of : (m k : Moment) (a : Result (List ℕ) HamtFault) (r : Result (List ℕ) EditFault) → k.gets ≡ m.gets → CausedBy m a k → AnswersAs a r → Spares m r k
spares_of m k (Ok b) r gets x is = subst (λ y. Spares m y k) (sym is) (record { cause = tt; later = x.later; gets = gets })
spares_of m k (Err H.Size) r gets x is = subst (λ y. Spares m y k) (sym is) (record { cause = tt; later = x.later; gets = gets })
spares_of m k (Err H.Store) r gets x is = subst (λ y. Spares m y k) (sym is) (record { cause = x.cause; later = x.later; gets = gets })
spares_of m k (Err (H.Clash id kept new)) r gets x is = subst (λ y. Spares m y k) (sym is.0) (record { cause = x.cause; later = x.later; gets = gets })
spares_of m k (Err H.Memory) r gets x is = subst (λ y. Spares m y k) (sym is) (record { cause = tt; later = x.later; gets = gets })
spares_of m k (Err H.Exhausted) r gets x is = subst (λ y. Spares m y k) (sym is) (record { cause = tt; later = x.later; gets = gets })
spares_of m k (Err H.NoKey) r gets x is = subst (λ y. Spares m y k) (sym is) (record { cause = tt; later = x.later; gets = gets })
spares_of m k (Err (H.Block id why)) r gets x is = absurd is

pub ok_of : (P : List ℕ → Type 0) (a : Result (List ℕ) HamtFault) (r : Result (List ℕ) EditFault) → IfOk a P → AnswersAs a r → IfOk r P
ok_of P (Ok b) r x is = subst (λ y. IfOk y P) (sym is) x
ok_of P (Err H.Size) r x is = subst (λ y. IfOk y P) (sym is) tt
ok_of P (Err H.Store) r x is = subst (λ y. IfOk y P) (sym is) tt
ok_of P (Err (H.Clash id kept new)) r x is = subst (λ y. IfOk y P) (sym is.0) tt
ok_of P (Err H.Memory) r x is = subst (λ y. IfOk y P) (sym is) tt
ok_of P (Err H.Exhausted) r x is = subst (λ y. IfOk y P) (sym is) tt
ok_of P (Err H.NoKey) r x is = subst (λ y. IfOk y P) (sym is) tt
ok_of P (Err (H.Block id why)) r x is = absurd is

-- an edit gets no block, and so refuses none
pub never_block : (m k : Moment) (a : Result (List ℕ) HamtFault) → CausedBy m a k → names_block a ≡ false
never_block m k (Ok b) x = refl
never_block m k (Err H.Exhausted) x = refl
never_block m k (Err H.NoKey) x = refl
never_block m k (Err H.Size) x = refl
never_block m k (Err H.Store) x = refl
never_block m k (Err (H.Clash id kept new)) x = refl
never_block m k (Err H.Memory) x = refl
never_block m k (Err (H.Block id why)) x = absurd x.cause

-- ---- where the value is held

if_map : {A : Type 0} (o : Option A) (P Q : A → Type 0) → ((a : A) → P a → Q a) → IfTold o P → IfTold o Q
if_map None P Q f t = tt
if_map (Some a) P Q f t = f a t

-- a store that told its blocks tells them later
told_then : (a b : Option (List (List ℕ))) (was : List (List ℕ)) (P : List (List ℕ) → Type 0) → a ≡ Some was → BothTold a b Keeps → IfTold b P → (now : List (List ℕ)) × P now
told_then (Some a) (Some b) was P told keeps x = (b, x)
told_then (Some a) None was P told keeps x = absurd keeps
told_then None b was P told keeps x = absurd (none-some was told)

module _ (h : List ℕ → List ℕ) (rows : List Row) (n : TypeNo) (c : Value) (u : Data) (m k : Moment) (was : List (List ℕ)) (told : m.blocks ≡ Some was) (schema : IsSchema rows) (is_key : ℕ → List ℕ → Bool) (keys : TestsKeys rows is_key)
    (fits : Fits rows deepest (plainly n) c) (tree : represented (whole h) rows (plainly n) c ≡ Some u) where
  abbrev Nodes : List (List ℕ)
  Nodes = nodes h rows (plainly n) c

  abbrev Blocks : List (List ℕ)
  Blocks = blocks_of bare h rows n c u

  blocks_same : spell u ∷ Nodes ≡ Blocks
  blocks_same = ap (λ bs. spell u ∷ bs) (sym (append-nil Nodes))

  in_blocks : (b : List ℕ) → IsIn b (spell u ∷ Nodes) → Contains Blocks b
  in_blocks b is = subst (λ xs. Contains xs b) blocks_same (IsIn-contains b (spell u ∷ Nodes) is)

  abbrev IsHeldNow : List (List ℕ) → Type 0
  IsHeldNow now = IsHeld (block_at now) h rows deepest (plainly n) u c × IsHeldBlock (block_at now) (spell u)

  stands : (now : List (List ℕ)) (b : List ℕ) → b ≡ spell u → IsHeldNow now → Stands bare (block_at now) h rows n (id_of b) c
  stands now b is x = subst (λ y. Stands bare (block_at now) h rows n (id_of y) c) (sym is) (held_stand (block_at now) h rows n u c x.1.short x.1.there x.0)

  all_short : (now : List (List ℕ)) → IsHeldNow now → AllByRecursion (λ y. length y ≤ longest_block) Blocks
  all_short now x = subst (AllByRecursion (λ y. length y ≤ longest_block)) blocks_same
      (x.1.short, all_more (IsHeldBlock (block_at now)) (λ y. length y ≤ longest_block) (λ y held. held.short) Nodes x.0.held)

  abbrev IsTooLong : Type 0
  IsTooLong = (b : List ℕ) × Contains Blocks b × (longest_block < length b)

  long_node : any_long Nodes ≡ true → IsTooLong
  long_node is = let z = long_one Nodes is in (z.0, in_blocks z.0 (inr z.1), ltb-true longest_block (length z.0) z.2)

  long_part : HasLongPart h rows (plainly n, c) → IsTooLong
  long_part part =
      let z = long_one (spell u ∷ Nodes) (parts_are_in_blocks h rows is_key schema keys (plainly n, c) u (deepest, fits) tree part) in
      (z.0, in_blocks z.0 z.1, ltb-true longest_block (length z.0) z.2)

  abbrev Answers : Result (List ℕ) EditFault → Type 0
  Answers r = ReplaceAnswer h rows n c u m r k

  answer_is : BothTold m.blocks k.blocks Keeps → (a : Result (List ℕ) HamtFault) (r : Result (List ℕ) EditFault) → WholeAnswer h rows (plainly n) c u m a k → AnswersAs a r → ReplaceAnswer h rows n c u m r k
  answer_is keeps (Ok b) r x is =
      let there = told_then m.blocks k.blocks was IsHeldNow told keeps x.1 in
      subst Answers (sym is)
      (x.0, all_short there.0 there.1, if_map k.blocks IsHeldNow (λ now. Stands bare (block_at now) h rows n (id_of b) c) (λ now y. stands now b x.0 y) x.1)
  answer_is keeps (Err H.Size) r x is = subst Answers (sym is) (⊎_elim long_node long_part x)
  answer_is keeps (Err H.Store) r x is = subst Answers (sym is) x
  answer_is keeps (Err (H.Clash id kept new)) r x is =
      subst Answers (sym is.0) (
        record {
          kept = kept;
          new = new;
          held = if_map k.blocks (λ held. block_at held id.0 ≡ Some kept) (λ held. (block_at held (id_of kept) ≡ Some kept) × Unit {0}) (λ held y. (ap (block_at held) x.2.0 ∙ y, tt)) x.2.3;
          among = in_short Blocks new (in_blocks new x.0) x.1;
          collide = record { kept_bytes = is.1; new_bytes = is.2; differ = x.2.2; one_id = x.2.0 ∙ sym x.2.1 };
        },
        refl,
        refl,
      )
  answer_is keeps (Err H.Memory) r x is = subst Answers (sym is) tt
  answer_is keeps (Err H.Exhausted) r x is = absurd x
  answer_is keeps (Err H.NoKey) r x is = absurd x
  answer_is keeps (Err (H.Block id why)) r x is = absurd x

  came_short : (now : List (List ℕ)) (b : List ℕ) → Came h rows (plainly n) c u now b → Contains (short Blocks) b
  came_short now b x = in_short Blocks b (subst (λ xs. Contains xs b) blocks_same x.among) x.short

  pub replaced : (path : List (List ℕ)) (a : Result (List ℕ) HamtFault) (r : Result (List ℕ) EditFault) → EditsWhole h rows (plainly n) c u path m a k → AnswersAs a r → Replaces h rows n path c u m r k
  replaced path a r x is = record {
    answer = answer_is x.later.keeps a r x.answer is;
    adds = told-map m.blocks k.blocks (AddsBlocks h rows (plainly n) c u) (λ was now. (id b : List ℕ) → block_at now id ≡ Some b → (block_at was id ≡ Some b) ⊎ Contains (short Blocks) b)
        (λ was now y. λ id b there. ⊎_elim (λ old. inl old) (λ came. inr (came_short now b came)) (y.came id b there)) x.adds;
    whole = told-map m.blocks k.blocks (AddsBlocks h rows (plainly n) c u) (λ was now. (id b : List ℕ) → block_at now id ≡ Some b → (block_at was id ≡ Some b) ⊎ IsWhole now (children_in bare h rows n c b))
        (λ was now y. λ id b there. ⊎_elim (λ old. inl old) (λ came. inr (came_whole h rows n c u tree now b came)) (y.came id b there)) x.adds;
    puts = x.puts;
    given = ok_of (λ b. IfTold k.given (AreIdsGiven (spell u ∷ nodes_met h rows (plainly n, c) path))) a r x.given is;
  }
