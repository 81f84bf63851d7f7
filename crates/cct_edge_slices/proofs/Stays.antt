-- A page that stays.
use Rattle.std.proofs.Common.{◌≡◌, ◌∙◌, ◌+◌, ◌-◌, ℕ, ap, arith, drop, refl, sym}
use Rattle.std.proofs.lemmas.List.{drop-drop}
use Rattle.cct_edge_slices.specs.declared.page.Page.{Page}
use Rattle.cct_edge_slices.specs.Slices.{PageStays, page_bytes, written_count}

-- a page stays over nothing, and over one thing after the other
pub stays_refl : (page : Page) → PageStays page page
stays_refl page = (refl, refl, omega arith, (λ fits. fits), refl)

pub stays_trans : (before mid now : Page) → PageStays before mid → PageStays mid now → PageStays before now
stays_trans before mid now one two =
    let more : ℕ = written_count now - written_count mid in
    let grown : written_count mid + more ≡ written_count now = omega (arith, two.2) in (
      two.0 ∙ one.0,
      two.1 ∙ one.1,
      omega (arith, one.2, two.2),
      (λ fits. two.3 (one.3 fits)),
      two.4 ∙ ap (λ n. drop n (page_bytes mid)) (sym grown)
          ∙ sym (drop-drop more (written_count mid) (page_bytes mid))
          ∙ ap (λ bytes. drop more bytes) one.4
          ∙ drop-drop more (written_count mid) (page_bytes before)
          ∙ ap (λ n. drop n (page_bytes before)) grown,
    )
