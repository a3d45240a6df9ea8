-- A walk of two trees in step, so far.
use Rattle.std.proofs.Common.{◌≡◌, ◌⊎◌, inl, inr, ℕ, zero, suc, ◌+◌, ◌≤◌, ◌<◌, List, [], ◌∷◌, ◌++◌, length, take, get_or, Option, Some, None, sym, ap, ◌∙◌, subst, arith}
use Rattle.std.specs.Prelude.{Contains, Ok, Err}
use Rattle.std.specs.List.{AllByRecursion}
use Rattle.std.proofs.lemmas.List.{take_all, take_more, take-append-le}
use Rattle.ild_beneath.specs.Children.{Child, children_of}
use Rattle.ild_data.proofs.AllOf.{all_append, all_contained}
use Rattle.ild_data.specs.Spell.{id_of}
use Rattle.ild_edges.specs.Count.{Rose}
use Rattle.ild_edges.specs.Store.{Moment, block_at}
use Rattle.ild_edges.specs.Told.{IfTold}
use Rattle.ild_open_parts.proofs.Breaking.{rose_later}
use Rattle.ild_open_parts.proofs.Turning.{only_trans}
use Rattle.ild_open_parts.specs.Reads.{OnlyReads}
use Rattle.ild_open_parts.specs.declared.fault.OpenFault.{OpenFault}
use Rattle.ild_open_parts.specs.declared.fault.OpenFault.TheVariants as F
use Rattle.ild_schema.specs.declared.number.TypeNo.{TypeNo}
use Rattle.ild_schema.specs.declared.row.Row.{Row}
use Rattle.ild_typed.proofs.Rooms.{all_more}
use Rattle.ild_compare.specs.inside.Fetching.{Lacks}
use Rattle.ild_compare.specs.Reached.{IsAlike, IsBeneath, IsLacking, IsMet, IsUnder, LeadsTo}
use Rattle.ild_compare.specs.inside.Spots.{Grows}
use Rattle.ild_compare.specs.inside.Steps.{StepAnswer, Steps}
use Rattle.ild_compare.specs.inside.Walked.{WalkAnswer, Walks}
use Rattle.ild_compare.proofs.Growing.{still_all}

module _ (rows : List Row) (ty : TypeNo) (root : List ℕ) (left right : Moment) where
  abbrev Met : Child → Type 0
  Met c = IsMet rows ty root left.blocks right.blocks c

  abbrev Alike : List Child → Child → Type 0
  Alike spots c = IsAlike rows ty root left.blocks right.blocks spots c

  -- so many of the places that were met were passed: both stores hold one block there, and lead on to places that were met
  pub record Walked (passed : ℕ) (spots : List Child) (l r : Moment) : Type 0 where
    pub first : AllByRecursion (Contains spots) (children_of rows ty 0 root)
    pub met : AllByRecursion Met spots
    pub alike : AllByRecursion (Alike spots) (take passed spots)
    pub left_only : OnlyReads left l
    pub right_only : OnlyReads right r

  met_first : (c : Child) → Contains (children_of rows ty 0 root) c → Met c
  met_first c has = record { many = zero; left_leads = has; right_leads = has }

  pub walked_none : (spots : List Child) → OnlyReads left left → OnlyReads right right → Grows (children_of rows ty 0 root) [] spots → Walked 0 spots left right
  walked_none spots a b g = record {
    first = g.all;
    met = subst (AllByRecursion Met) (sym g.is) (all_more (Contains (children_of rows ty 0 root)) Met met_first g.more g.among);
    alike = tt;
    left_only = a;
    right_only = b;
  }

  alike_more : (spots more : List Child) (c : Child) → Alike spots c → Alike (spots ++ more) c
  alike_more spots more c x = record {
    block = x.block;
    named = x.named;
    left_under = x.left_under;
    right_under = x.right_under;
    on = still_all spots more (children_of rows ty c.1 x.block) x.on;
  }

  -- how blocks are held doesn't change
  under_before : (m : Moment) (l : Moment) (b : List ℕ) → OnlyReads m l → IsUnder l.blocks b → IsUnder m.blocks b
  under_before m l b only under = subst (λ o. IsUnder o b) only.blocks under

  lead_more : (told : Option (List (List ℕ))) (many : ℕ) (c : Child) (b : List ℕ) → id_of b ≡ c.0 → LeadsTo rows ty root told many c → IsUnder told b
      → (d : Child) → Contains (children_of rows ty c.1 b) d → LeadsTo rows ty root told (suc many) d
  lead_more told many c b named leads under d has = (b, c.1, subst (λ i. LeadsTo rows ty root told many (i, c.1)) (sym named) leads, under, has)

  module _ (passed : ℕ) (spots : List Child) (l r : Moment) (w : Walked passed spots l r) (c : Child) (lt : passed < length spots) (at : c ≡ get_or spots passed c) where
    here_met : Met c
    here_met = all_contained Met spots c w.met (passed, lt, sym at)

    module _ (new : List Child) (k o : Moment) where
      pub walked_more : Steps rows ty l r c spots (Ok None) new k o → Walked (passed + 1) new k o
      walked_more s =
          let one = s.answer in
          let g = one.grows in
          let left_under = under_before left l one.block w.left_only one.left_under in
          let right_under = under_before right r one.block w.right_only one.right_under in
          let on_met : (d : Child) → Contains (children_of rows ty c.1 one.block) d → Met d =
          λ d has. record {
            many = suc here_met.many;
            left_leads = lead_more left.blocks here_met.many c one.block one.named here_met.left_leads left_under d has;
            right_leads = lead_more right.blocks here_met.many c one.block one.named here_met.right_leads right_under d has;
          } in
          let own : Alike new c = record { block = one.block; named = one.named; left_under = left_under; right_under = right_under; on = g.all } in
          let before : AllByRecursion (Alike new) (take passed spots) =
          subst (λ xs. AllByRecursion (Alike xs) (take passed spots)) (sym g.is) (all_more (Alike spots) (Alike (spots ++ g.more)) (alike_more spots g.more) (take passed spots) w.alike) in
          let cut : take (passed + 1) new ≡ take passed spots ++ c ∷ [] =
          ap (take (passed + 1)) g.is ∙ take-append-le (passed + 1) spots g.more (omega (arith, lt)) ∙ take_more spots passed c (omega (arith, lt)) ∙ ap (λ x. take passed spots ++ x ∷ []) (sym at) in
          record {
            first = subst (λ xs. AllByRecursion (Contains xs) (children_of rows ty 0 root)) (sym g.is) (still_all spots g.more (children_of rows ty 0 root) w.first);
            met = subst (AllByRecursion Met) (sym g.is) (all_append Met spots g.more w.met (all_more (Contains (children_of rows ty c.1 one.block)) Met on_met g.more g.among));
            alike = subst (AllByRecursion (Alike new)) (sym cut) (all_append (Alike new) (take passed spots) (c ∷ []) before (own, tt));
            left_only = only_trans left l k w.left_only s.left_only;
            right_only = only_trans right r o w.right_only s.right_only;
          }

      -- two blocks that differ
      pub walk_parts : (p : List ℕ × List ℕ) → Steps rows ty l r c spots (Ok (Some p)) new k o → Walks rows ty root left right (Ok (Some p)) k o
      walk_parts p s =
          let x = s.answer in
          let named : id_of p.1 ≡ c.0 = sym x.collide.one_id ∙ x.named in
          record {
            answer = record {
              collide = x.collide;
              left_under = under_before left l p.0 w.left_only x.left_under;
              right_under = under_before right r p.1 w.right_only x.right_under;
              left_beneath = record { many = here_met.many; kind = c.1; leads = subst (λ i. LeadsTo rows ty root left.blocks here_met.many (i, c.1)) (sym x.named) here_met.left_leads };
              right_beneath = record { many = here_met.many; kind = c.1; leads = subst (λ i. LeadsTo rows ty root right.blocks here_met.many (i, c.1)) (sym named) here_met.right_leads };
            };
            left_only = only_trans left l k w.left_only s.left_only;
            right_only = only_trans right r o w.right_only s.right_only;
          }

      lack_before : (m a b : Moment) (id : List ℕ) → OnlyReads m a → Lacks a b id → IfTold m.blocks (λ held. block_at held id ≡ None) × Rose m.lacks b.lacks
      lack_before m a b id only x = (subst (λ o. IfTold o (λ held. block_at held id ≡ None)) only.blocks x.0, rose_later m.lacks a.lacks b.lacks only.later.lacks x.1)

      beneath : (told : Option (List (List ℕ))) (id : List ℕ) → id ≡ c.0 → LeadsTo rows ty root told here_met.many c → IsBeneath rows ty root told id
      beneath told id named leads = record { many = here_met.many; kind = c.1; leads = subst (λ i. LeadsTo rows ty root told here_met.many (i, c.1)) (sym named) leads }

      lacking : (id : List ℕ) → id ≡ c.0 → Lacks l k c.0 ⊎ Lacks r o c.0 → IsLacking rows ty root left k id ⊎ IsLacking rows ty root right o id
      lacking id named (inl x) =
          let y = lack_before left l k id w.left_only (subst (Lacks l k) (sym named) x) in
          inl (record { beneath = beneath left.blocks id named here_met.left_leads; lacks = y.0; rose = y.1 })
      lacking id named (inr x) =
          let y = lack_before right r o id w.right_only (subst (Lacks r o) (sym named) x) in
          inr (record { beneath = beneath right.blocks id named here_met.right_leads; lacks = y.0; rose = y.1 })

      faults : Rose l.faults k.faults ⊎ Rose r.faults o.faults → Rose left.faults k.faults ⊎ Rose right.faults o.faults
      faults (inl x) = inl (rose_later left.faults l.faults k.faults w.left_only.later.faults x)
      faults (inr x) = inr (rose_later right.faults r.faults o.faults w.right_only.later.faults x)

      stop_answer : (e : OpenFault) → StepAnswer rows ty l r c spots (Err e) new k o → WalkAnswer rows ty root left right (Err e) k o
      stop_answer (F.Block id why) x = (x.1, lacking id.0 x.0 x.2)
      stop_answer F.Store x = faults x
      stop_answer F.Memory x = tt

      pub walk_stops : (e : OpenFault) → Steps rows ty l r c spots (Err e) new k o → Walks rows ty root left right (Err e) k o
      walk_stops e s = record { answer = stop_answer e s.answer; left_only = only_trans left l k w.left_only s.left_only; right_only = only_trans right r o w.right_only s.right_only }

  pub walk_ends : (passed : ℕ) (spots : List Child) (l r : Moment) → length spots ≤ passed → Walked passed spots l r → Walks rows ty root left right (Ok None) l r
  walk_ends passed spots l r le w = record {
    answer = record { spots = spots; first = w.first; each = subst (AllByRecursion (Alike spots)) (take_all passed spots le) w.alike };
    left_only = w.left_only;
    right_only = w.right_only;
  }
