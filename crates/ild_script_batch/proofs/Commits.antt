-- A flush along the places of a batch's value is the commit.
use Rattle.std.proofs.Common.{◌≡◌, ◌≢◌, ◌⊎◌, inl, inr, ⊎_elim, ℕ, ◌+◌, ◌≤◌, List, [], ◌∷◌, ◌++◌, length, map, true, Option, Some, None, Result, Ok, Err, refl, sym, ap, ◌∙◌, subst, arith}
use Rattle.std.specs.Prelude.{Contains, IsSome, min, option_map}
use Rattle.std.specs.List.{AllByRecursion}
use Rattle.std.specs.Option.{option_map_or}
use Rattle.std.specs.Cmp.Lexicographic.{nat_list_eq_equiv}
use Rattle.std.proofs.lemmas.List.{append-nil}
use Rattle.ild_data.proofs.AllOf.{all_append, all_split, all_contained}
use Rattle.ild_data.specs.Key.{same_text}
use Rattle.ild_data.specs.Spell.{id_of, spell}
use Rattle.ild_edges.specs.Among.{IsIn}
use Rattle.ild_edges.proofs.Among.{IsIn-of}
use Rattle.ild_dirty.specs.Beneath as B
use Rattle.ild_dirty.specs.Beneath.{AgreesWith, IsTree}
use Rattle.ild_dirty.specs.Flush as L
use Rattle.ild_dirty.specs.Flush.{Asks, Flushes, FlushAnswer}
use Rattle.ild_dirty.specs.declared.fault.FlushFault.{FlushFault}
use Rattle.ild_dirty.specs.declared.fault.FlushFault.TheVariants as F
use Rattle.ild_dirty.proofs.Batching.{own_first}
use Rattle.ild_dirty.proofs.Puts.{held-keeps, kept_held, told-map}
use Rattle.ild_edges.specs.Gained.{AreHeld, CameFrom}
use Rattle.ild_edges.specs.Store.{Moment, Keeps, block_at}
use Rattle.ild_edges.specs.Told.{BothTold, IfTold}
use Rattle.ild_schema.specs.Value.{Value}
use Rattle.ild_script.specs.declared.reply.No.TheVariants as N
use Rattle.ild_script.specs.declared.reply.Reply.{Reply}
use Rattle.ild_script.specs.declared.reply.Reply.TheVariants as R
use Rattle.ild_script_meaning.specs.Costs.{different}
use Rattle.ild_script_meaning.specs.Lines.{Setting, commit_due, places_in, root_reply, typed_lines, value_blocks, value_children}
use Rattle.ild_script_session.specs.Batch.{together}
use Rattle.ild_script_session.specs.Session.{Due, Stage, resting}
use Rattle.ild_script_session.specs.Step.{AreCarried, Carries, Gains, Holds, IsExcused, IsWhole, Replies, StaysTogether}
use Rattle.ild_typed.specs.Stands.{blocks_of}
use Rattle.ild_typed.proofs.Rooms.{all_more}
use Rattle.ild_typed_places.specs.Places.{Places, blocks_in, children_at, down_from, each_place, nowhere, value_places}
use Rattle.ild_typed_places.proofs.Listing.{all_mapped, all_one}
use Rattle.ild_typed_places.proofs.Telling.{from_places, to_places}
use Rattle.ild_script_batch.specs.Commits.{CarriedAgree, FlushesCommit, IsTreeOf, commit_reply, commit_stage, put_before}
use Rattle.ild_script_batch.specs.Inside.{batching, begun_at}
use Rattle.ild_script_batch.proofs.Carrying.{carried_by}
use Rattle.ild_script_session.proofs.Came.{Came}
use Rattle.ild_script_batch.proofs.Listed.{all_in, all_listed, came_over, ids_at, in_different, keeps_over, over_own, some_over, told_if, told_now}
use Rattle.ild_script_batch.proofs.Unkinded.{HasKind, blocks_before, kind_at, places_before}

module _ (w : Setting) (v : Value) (t : B.Place) (of : IsTreeOf w v t) where
  -- ---- the blocks and the places of the value are those of the tree

  abbrev Home : Places
  Home = value_places w.frame w.hash w.rows w.ty v of.tree

  blocks_are : value_blocks w v ≡ blocks_of w.frame w.hash w.rows w.ty v of.tree
  blocks_are = ap (λ o. option_map_or (λ d. blocks_of w.frame w.hash w.rows w.ty v d) o []) of.represented

  places_are : places_in w v ≡ B.places_in t
  places_are =
      ap (λ o. option_map_or (λ d. map (λ q. (q.0, down_from q)) (each_place (value_places w.frame w.hash w.rows w.ty v d))) o []) of.represented
      ∙ ap (λ ps. map (λ q. (q.0, down_from q)) (each_place ps)) (sym of.places) ∙ places_before t nowhere ∙ append-nil (B.places_in t)

  children_are : (b : List ℕ) → value_children w v b ≡ children_at (put_before t nowhere) b
  children_are b = ap (λ o. option_map_or (λ d. children_at (value_places w.frame w.hash w.rows w.ty v d) b) o []) of.represented ∙ ap (λ ps. children_at ps b) (sym of.places)

  tree_blocks : blocks_in Home ≡ B.blocks_in t ++ []
  tree_blocks = ap blocks_in (sym of.places) ∙ blocks_before t nowhere

  -- what holds of all blocks of the tree holds of those of the value, and the other way
  pub all_of_value : (P : List ℕ → Type 0) → AllByRecursion P (B.blocks_in t) → AllByRecursion P (value_blocks w v)
  all_of_value P all = subst (AllByRecursion P) (sym blocks_are) (from_places P w.frame w.hash w.rows w.ty v of.tree (subst (AllByRecursion P) (sym tree_blocks) (all_append P (B.blocks_in t) [] all tt)))

  pub all_of_tree : (P : List ℕ → Type 0) → AllByRecursion P (value_blocks w v) → AllByRecursion P (B.blocks_in t)
  all_of_tree P all = (all_split P (B.blocks_in t) [] (subst (AllByRecursion P) tree_blocks (to_places P w.frame w.hash w.rows w.ty v of.tree (subst (AllByRecursion P) blocks_are all)))).0

  of_value : (b : List ℕ) → IsIn b (B.blocks_in t) → Contains (value_blocks w v) b
  of_value b is = all_in (Contains (value_blocks w v)) (B.blocks_in t) b (all_of_tree (Contains (value_blocks w v)) (all_one (value_blocks w v))) is

  -- the root block is one of them
  root_among : IsIn (spell (w.frame.wrap of.tree)) (different (value_blocks w v))
  root_among = in_different (spell (w.frame.wrap of.tree)) (value_blocks w v) (subst (λ bs. IsIn (spell (w.frame.wrap of.tree)) bs) (sym blocks_are) (inl refl))

  -- ---- children

  whole_of : (children : ℕ → List ℕ → List (List ℕ × ℕ)) (held : List (List ℕ)) (b : List ℕ) → IsTree children t → L.IsWholeIn children t held b → IsWhole held (value_children w v b)
  whole_of children held b tree x =
      let k : HasKind children (each_place (put_before t nowhere)) b x.kind = kind_at children t nowhere tree b x.kind x.place in
      let ids : AllByRecursion (λ i. IsSome (block_at held i)) (ids_at k.at) =
      subst (AllByRecursion (λ i. IsSome (block_at held i))) (sym k.ids) (all_mapped (λ i. IsSome (block_at held i)) (λ (c : List ℕ × ℕ). c.0) (children x.kind b) x.children_held) in
      record {
        ids = ids_at k.at;
        place = subst (λ cs. Contains cs (ids_at k.at)) (sym (children_are b))
            (all_contained (λ q. same_text b q.0 ≡ true → Contains (children_at (put_before t nowhere) b) (ids_at q)) (each_place (put_before t nowhere)) k.at (all_listed b (each_place (put_before t nowhere))) k.among
            (subst (λ (c : List ℕ). same_text b c ≡ true) (sym k.is) (nat_list_eq_equiv.refl b)));
        children = ids;
      }

-- ---- what the batch has under these ids

agrees_by : (own held : List (List ℕ)) (b : List ℕ) → block_at (own ++ held) (id_of b) ≡ Some b → (block_at own (id_of b) ≡ None) ⊎ (block_at own (id_of b) ≡ Some b)
agrees_by own held b here = by (block_at own (id_of b)) refl where
  by : (o : Option (List ℕ)) → o ≡ block_at own (id_of b) → (block_at own (id_of b) ≡ None) ⊎ (block_at own (id_of b) ≡ Some b)
  by None is = inl (sym is)
  by (Some c) is = inr (sym is ∙ sym (own_first own held (id_of b) c (sym is)) ∙ here)

agrees_told : (o : Option (List (List ℕ))) (own bs : List (List ℕ)) → o ≢ None → IfTold (option_map (λ held. own ++ held) o) (λ held. AllByRecursion (λ b. block_at held (id_of b) ≡ Some b) bs) → AgreesWith own bs
agrees_told None own bs told all = absurd (told refl)
agrees_told (Some held) own bs told all = all_more (λ b. block_at (own ++ held) (id_of b) ≡ Some b) (λ b. (block_at own (id_of b) ≡ None) ⊎ (block_at own (id_of b) ≡ Some b)) (λ b here. agrees_by own held b here) bs all

tree_told : (w : Setting) (v : Value) (t : B.Place) (of : IsTreeOf w v t) (o : Option (List (List ℕ))) → IfTold o (λ held. AllByRecursion (λ b. block_at held (id_of b) ≡ Some b) (value_blocks w v)) → IfTold o (λ held. AllByRecursion (λ b. block_at held (id_of b) ≡ Some b) (B.blocks_in t))
tree_told w v t of None all = tt
tree_told w v t of (Some held) all = all_of_tree w v t of (λ b. block_at held (id_of b) ≡ Some b) all

pub carried_agree : CarriedAgree
carried_agree = λ w v kept owed own t m told c of. agrees_told m.blocks own (B.blocks_in t) told (tree_told w v t of (option_map (λ held. own ++ held) m.blocks) c.value)

-- ---- the line

carried_dirty : (o : Option (List (List ℕ))) (own : List (List ℕ)) (ps : List (List ℕ × List (List ℕ)))
    → AllByRecursion (λ p. Contains own p.0 ⊎ IfTold o (λ held. AllByRecursion (λ b. block_at held (id_of b) ≡ Some b) p.1)) ps → IfTold o (λ held. L.AreCarried held own ps)
carried_dirty None own ps all = tt
carried_dirty (Some held) own ps all = all

holds_later : (a b : Option (List (List ℕ))) (bs : List (List ℕ)) → BothTold a b Keeps → IfTold a (λ held. AllByRecursion (λ c. block_at held (id_of c) ≡ Some c) bs) → IfTold b (λ held. AllByRecursion (λ c. block_at held (id_of c) ≡ Some c) bs)
holds_later a b bs keeps all = told_now a b (λ held. AllByRecursion (λ c. block_at held (id_of c) ≡ Some c) bs) Keeps (λ held. AllByRecursion (λ c. block_at held (id_of c) ≡ Some c) bs) (λ was now held keep. held-keeps bs was now held keep) all keeps

carried_later : (m n : Moment) (own : List (List ℕ)) (ps : List (List ℕ × List (List ℕ))) → BothTold m.blocks n.blocks Keeps → AreCarried m own ps → AreCarried n own ps
carried_later m n own [] keeps all = tt
carried_later m n own (p ∷ ps) keeps all = (⊎_elim (λ here. inl here) (λ held. inr (holds_later m.blocks n.blocks p.1 keeps held)) all.0, carried_later m n own ps keeps all.1)

module _ (w : Setting) (children : ℕ → List ℕ → List (List ℕ × ℕ)) (v kept : Value) (owed : ℕ) (own : List (List ℕ)) (t : B.Place) (m : Moment) (result : Result (Unit {0}) FlushFault) (n : Moment) (most : length own ≤ owed)
    (c : Carries (typed_lines w) m (batching v kept owed own)) (of : IsTreeOf w v t) (tree : IsTree children t) (flushes : Flushes own children t m result n) (asks : Asks own m result n) where
  abbrev Line : Due Value
  Line = commit_due w (begun_at v kept) (Some kept)

  -- the places are carried, as the walk has them
  dirty : IfTold m.blocks (λ held. L.AreCarried held own (B.places_in t))
  dirty = carried_dirty m.blocks own (B.places_in t) (subst (AreCarried m own) (places_are w v t of) c.places)

  gains : Gains m Line n
  gains = record {
    adds = told-map m.blocks n.blocks (CameFrom (B.blocks_in t)) (Came (λ b held. Contains (value_blocks w v) b)) (λ was now came id b held. ⊎_elim (λ before. inl before) (λ new. inr (of_value w v t of b (IsIn-of b (B.blocks_in t) new))) (came id b held)) flushes.adds;
    whole = told_if m.blocks n.blocks (λ was. L.AreCarried was own (B.places_in t)) (λ was now. L.AreCarried was own (B.places_in t) → L.CameWholeIn children t was now) (Came (λ b held. IsWhole held (value_children w v b)))
        (λ was now carried came id b held. ⊎_elim (λ before. inl before) (λ new. inr (whole_of w v t of children now b tree new)) (came carried id b held)) dirty flushes.whole;
  }

  puts : n.puts ≤ m.puts + min (length (different (value_blocks w v))) owed
  puts =
      let each : n.puts ≤ m.puts + length (different (value_blocks w v)) = flushes.puts (different (value_blocks w v)) (λ b is. in_different b (value_blocks w v) (IsIn-of b (value_blocks w v) (of_value w v t of b is))) in
      let all : n.puts ≤ m.puts + length own = asks.puts in
      omega (arith, each, all, most)

  one_at_least : (b : List ℕ) (bs : List (List ℕ)) → IsIn b bs → length bs ≡ 0 → ⊥
  one_at_least b [] is e = absurd is
  one_at_least b (x ∷ bs) is e = absurd (omega (arith, e))

  still : length (different (value_blocks w v)) ≡ 0 → n.blocks ≡ m.blocks
  still none = absurd (one_at_least (spell (w.frame.wrap of.tree)) (different (value_blocks w v)) (root_among w v t of) none)

  -- ---- where it is kept

  held_then : FlushAnswer own t m (Ok tt) n → Holds n (value_blocks w v)
  held_then answer = told_now m.blocks n.blocks (λ was. L.AreCarried was own (B.places_in t)) (λ was now. L.AreCarried was own (B.places_in t) → AreHeld (B.blocks_in t) now)
      (λ held. AllByRecursion (λ b. block_at held (id_of b) ≡ Some b) (value_blocks w v)) (λ was now carried all. all_of_value w v t of (λ b. block_at now (id_of b) ≡ Some b) (all carried)) dirty answer

  kept_reply : FlushAnswer own t m (Ok tt) n → Replies (typed_lines w) m (batching v kept owed own) Line (Some (root_reply w v)) n (resting v)
  kept_reply answer = record {
    answered = inl (refl, refl);
    later = asks.later;
    carries = λ before. record { kept = held_then answer; value = held_then answer; places = carried_by w v n.blocks (held_then answer) };
    stored = gains;
    still = still;
    stays = tt;
    gets = let same = asks.gets in omega (arith, same);
    puts = puts;
    owed = omega arith;
  }

  -- ---- where it is refused

  abbrev Open : Stage Value
  Open = batching v kept owed own

  stays_open : StaysTogether m Open Line n Open
  stays_open = record {
    keeps = over_own own m.blocks n.blocks Keeps Keeps (λ was now keep. keeps_over own was now keep) asks.later.keeps;
    gained = record {
      adds = over_own own m.blocks n.blocks (Came (λ b held. Contains (value_blocks w v) b)) (Came (λ b held. Contains (value_blocks w v) b))
          (λ was now came. came_over own (λ b held. Contains (value_blocks w v) b) (λ b held. Contains (value_blocks w v) b) was now (λ b new. new) came) gains.adds;
      whole = over_own own m.blocks n.blocks (Came (λ b held. IsWhole held (value_children w v b))) (Came (λ b held. IsWhole held (value_children w v b)))
          (λ was now came. came_over own (λ b held. IsWhole held (value_children w v b)) (λ b held. IsWhole held (value_children w v b)) was now (λ b new. record {
            ids = new.ids;
            place = new.place;
            children = all_more (λ i. IsSome (block_at now i)) (λ i. IsSome (block_at (own ++ now) i)) (λ i some. some_over own now i some) new.ids new.children;
          }) came) gains.whole;
    };
  }

  open_reply : (reply : Reply) → IsExcused m Line.adds (Some reply) n (together n Open) → Replies (typed_lines w) m Open Line (Some reply) n Open
  open_reply reply excused = record {
    answered = inr (excused, refl);
    later = asks.later;
    carries = λ before. record {
      kept = holds_later m.blocks n.blocks (value_blocks w kept) asks.later.keeps before.kept;
      value = holds_later (option_map (λ held. own ++ held) m.blocks) (option_map (λ held. own ++ held) n.blocks) (value_blocks w v) stays_open.keeps before.value;
      places = carried_later m n own (places_in w v) asks.later.keeps before.places;
    };
    stored = gains;
    still = still;
    stays = stays_open;
    gets = let same = asks.gets in omega (arith, same);
    puts = puts;
    owed = omega arith;
  }

pub flushes_commit : FlushesCommit
flushes_commit = by where
  by : (w : Setting) (children : ℕ → List ℕ → List (List ℕ × ℕ)) (v kept : Value) (owed : ℕ) (own : List (List ℕ)) (t : B.Place) (m : Moment) (result : Result (Unit {0}) FlushFault) (n : Moment)
      → length own ≤ owed → Carries (typed_lines w) m (batching v kept owed own) → IsTreeOf w v t → IsTree children t → Flushes own children t m result n → Asks own m result n
      → Replies (typed_lines w) m (batching v kept owed own) (commit_due w (begun_at v kept) (Some kept)) (Some (commit_reply w v result)) n (commit_stage v kept owed own result)
  by w children v kept owed own t m (Ok u) n most c of tree flushes asks = kept_reply w children v kept owed own t m (Ok u) n most c of tree flushes asks flushes.answer
  by w children v kept owed own t m (Err F.Store) n most c of tree flushes asks = open_reply w children v kept owed own t m (Err F.Store) n most c of tree flushes asks (R.No N.Store) (inl flushes.answer)
  by w children v kept owed own t m (Err (F.Clash id x y)) n most c of tree flushes asks =
      open_reply w children v kept owed own t m (Err (F.Clash id x y)) n most c of tree flushes asks (R.No N.Clash)
      (let a = flushes.answer in inl (record { kept = x; new = y; held = kept_held n.blocks x (id_of y) a.3; among = of_value w v t of y a.0; collide = a.2 }))
  by w children v kept owed own t m (Err F.Memory) n most c of tree flushes asks = open_reply w children v kept owed own t m (Err F.Memory) n most c of tree flushes asks (R.No N.Memory) (inl tt)
