-- Where a tip comes to a trace, case by case, as the code goes: `on_running`, `on_passed`, `on_ended`, `on_none`.
use mathlib.Core.Bool.{Bool, true, false, true≢false}
use mathlib.Core.Path.{◌≡◌, refl, sym, ap, ◌∙◌, subst}
use Prim.Native.Nat.{◌<◌}
use Rattle.fraction.specs.declared.Fraction.{Fraction}
use Rattle.fraction.specs.Time.{as_time, not_later}
use Rattle.sheet.specs.declared.Track.{Track}
use Rattle.rule.specs.Side.{track_side}
use Rattle.rule.specs.Contact.{zero_z, D, Contact, nowhere, hit, contact, arrival, cut_by, cut, contact_to}
use Rattle.rule.proofs.Contacts.{none_cut}
use Rattle.contact.specs.Answers.{touch_of, TouchTimely, HitFrom}
use Rattle.contact.specs.declared.Touch.{Touch}
use Rattle.std.specs.Prelude.{Option, Some, None}
use Rattle.contact.proofs.Tests.{in_time, late}
use Rattle.cause.specs.Offer.{end_if, Reached, comes}

module _ (a b : Track) (ended : Bool) (end : Fraction) (other : b.id ≡ a.id → ⊥) where
  pub on_none : contact a b ≡ nowhere → Reached a b ended end None
  on_none e = comes other (sym (none_cut a b (end_if ended end) e)) tt tt

  -- b runs
  running : (n : Bool) → n ≡ false → contact a b ≡ contact_to a b (end_if n end)
  unfolding contact_to end_if
  running false z = refl
  running true z = absurd (true≢false z)

  module _ {t : Option Touch} (h : (touch_of t ≡ contact a b) × TouchTimely t × HitFrom (track_side a b) t) {u : Touch} (e : t ≡ Some u) where
    pub on_running : ended ≡ false → Reached a b ended end (Some u)
    on_running z = subst (Reached a b ended end) e (comes other (h.0 ∙ running ended z) h.1 h.2)

    module _ (z : ended ≡ false → ⊥) (sp : 0 < u.there.den) (ep : 0 < end.den) where
      -- cut at b's end
      as_cut : (n : Bool) → (n ≡ false → ⊥) → {c : Contact} → c ≡ cut a b (as_time end) (hit (as_time u.at) (as_time u.there)) → c ≡ contact_to a b (end_if n end)
      unfolding contact_to end_if
      as_cut false f x = absurd (f refl)
      as_cut true f x = x ∙ ap (cut a b (as_time end)) (ap touch_of (sym e) ∙ h.0)

      pub on_passed : not_later u.there end ≡ true → Reached a b ended end (Some u)
      unfolding cut cut_by
      on_passed l =
          let x = in_time u.there end sp ep (cut_by a b (as_time end) (as_time u.at) (as_time u.there)) (hit (as_time u.at) (as_time u.there)) (λ y. refl) l in
          comes other (as_cut ended z x) (subst TouchTimely e h.1) (subst (HitFrom (track_side a b)) e h.2)

      -- b ended before it was there
      pub on_ended : not_later u.there end ≡ false → {r : Option Touch} → (touch_of r ≡ arrival a b (as_time end) (zero_z (D a b))) × TouchTimely r × HitFrom (track_side a b) r → Reached a b ended end r
      unfolding cut cut_by
      on_ended l {r} g =
          let x = late u.there end sp ep (cut_by a b (as_time end) (as_time u.at) (as_time u.there)) (touch_of r) (λ y. g.0) l in
          comes other (as_cut ended z x) g.1 g.2
