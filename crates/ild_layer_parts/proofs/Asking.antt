-- Which cause is the first of a piece, from what is known of each.
use Rattle.std.proofs.Common.{◌≡◌, ℕ, ◌<◌, ◌≤◌, Bool, true, false, cond, Some, None, refl, ◌∙◌, ap, arith}
use Rattle.std.specs.Prelude.{nat_lt}
use Rattle.std.specs.Option.{option_or}
use Rattle.std.proofs.lemmas.Bool.{le-ltb, ltb-false}
use Rattle.ild_data.specs.Data.{Data}
use Rattle.ild_schema.specs.declared.def.TypeDef.{TypeDef}
use Rattle.ild_typed.specs.Causes.{why_of}
use Rattle.ild_typed.specs.Pieces.{hamt_why, keys_why, needs, room_why, why_at}
use Rattle.ild_typed.specs.Why.{Why}
use Rattle.ild_typed.specs.Why as W

less_true : (a b : ℕ) → a < b → nat_lt a b ≡ true
less_true a b h = by (nat_lt a b) refl where
  by : (c : Bool) → nat_lt a b ≡ c → nat_lt a b ≡ true
  by true e = e
  by false e = absurd (omega (arith, ltb-false a b e, h))

module _ (room : ℕ) (d : TypeDef) (t : Data) where
  pub own_at : (w : Why) → why_of d t ≡ Some w → why_at room d t ≡ Some w
  own_at w e = ap (λ o. option_or o (option_or (keys_why d t) (option_or (room_why room d t) (hamt_why d t)))) e

  pub keys_at : (w : Why) → why_of d t ≡ None → keys_why d t ≡ Some w → why_at room d t ≡ Some w
  keys_at w own e =
      ap (λ o. option_or o (option_or (keys_why d t) (option_or (room_why room d t) (hamt_why d t)))) own
      ∙ ap (λ o. option_or o (option_or (room_why room d t) (hamt_why d t))) e

  past_keys : why_of d t ≡ None → keys_why d t ≡ None → why_at room d t ≡ option_or (room_why room d t) (hamt_why d t)
  past_keys own keys =
      ap (λ o. option_or o (option_or (keys_why d t) (option_or (room_why room d t) (hamt_why d t)))) own
      ∙ ap (λ o. option_or o (option_or (room_why room d t) (hamt_why d t))) keys

  pub deep_at : why_of d t ≡ None → keys_why d t ≡ None → room < needs d t → why_at room d t ≡ Some W.Depth
  deep_at own keys less =
      past_keys own keys ∙ ap (λ b. option_or (cond b (Some W.Depth) None) (hamt_why d t)) (less_true room (needs d t) less)

  pub past_room : why_of d t ≡ None → keys_why d t ≡ None → needs d t ≤ room → why_at room d t ≡ hamt_why d t
  past_room own keys enough =
      past_keys own keys ∙ ap (λ b. option_or (cond b (Some W.Depth) None) (hamt_why d t)) (le-ltb room (needs d t) enough)

  pub none_at : why_of d t ≡ None → keys_why d t ≡ None → needs d t ≤ room → hamt_why d t ≡ None → why_at room d t ≡ None
  none_at own keys enough root = past_room own keys enough ∙ root
