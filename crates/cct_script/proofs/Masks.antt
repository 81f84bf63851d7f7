-- Inhibit masks in hexadecimal.
use Rattle.std.proofs.Common.{◌≡◌, ℕ, List, [], ◌∷◌, ◌*◌, length, None, Result, Ok, Err, refl, sym, ◌∙◌}
use Rattle.std.specs.Result.{result_ok}
use Rattle.hex.specs.Hex.{decode_of, decode_sized}
use Rattle.hex.specs.declared.error.FromHexError.{FromHexError}
use Rattle.hex.proofs.HexLemmas.{decode_of-ok, decode_sized-twice}
use Rattle.cct_model_lines.specs.Grammar.{mask_in, mask_of_bytes, ◌>>=◌}

pub no_mask : (field : List ℕ) (e : FromHexError) → decode_sized field 2 ≡ Err e → (r : Result (List ℕ) FromHexError)
    → decode_of field ≡ r → result_ok r >>= mask_of_bytes ≡ None
no_mask field e refused (Err why) same = refl
no_mask field e refused (Ok []) same = refl
no_mask field e refused (Ok (a ∷ [])) same = refl
no_mask field e refused (Ok (a ∷ b ∷ [])) same =
    let twice : length field ≡ 2 * 2 = (decode_of-ok field (a ∷ b ∷ []) same).2 in
    cc (sym refused ∙ decode_sized-twice field 2 twice ∙ same)
no_mask field e refused (Ok (a ∷ b ∷ c ∷ bytes)) same = refl

-- a field that isn't of two bytes spells no mask
pub mask_refused : (field : List ℕ) (e : FromHexError) → decode_sized field 2 ≡ Err e → mask_in field ≡ None
unfolding mask_in
mask_refused field e refused = no_mask field e refused (decode_of field) refl
