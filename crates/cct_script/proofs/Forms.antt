-- A line with another number of fields than its word wants has no form.
use Rattle.std.proofs.Common.{◌≡◌, ◌≢◌, ℕ, List, [], ◌∷◌, length, None, refl}
use Rattle.cct_model_lines.specs.terms.device.DeviceBody.{DeviceBody}
use Rattle.cct_model_lines.specs.terms.device.DeviceSetup.{DeviceSetup}
use Rattle.cct_model_lines.specs.declared.setup.SetupLine.{SetupLine}
use Rattle.cct_model_lines.specs.declared.command.Step.{Step}
use Rattle.cct_model_lines.specs.Grammar.{counting_line, hopper_line, value_line, texts_line, is_space, alone, step_at}
use Rattle.cct_model_lines.specs.Grammar.{place_step, fault_step, start_step, pay_step, path_step, route_step, vend_step, stock_step, change_step, crash_step}
use Rattle.std.specs.List.{slice_split}
use Rattle.cct_script.specs.Capture.{tap_form, watch_form}
use Rattle.cct_script.specs.Live.{do_form, order_form}
use Rattle.cct_script.proofs.Splits.{split_some}

pub no_counting : (make : DeviceSetup → SetupLine) (plain : ℕ → DeviceBody) (fields : List (List ℕ)) → length fields ≢ 4 →
    counting_line make plain fields ≡ None
no_counting make plain (a ∷ b ∷ c ∷ d ∷ []) other = absurd (other refl)
no_counting make plain fields other = refl

pub no_hopper : (fields : List (List ℕ)) → length fields ≢ 5 → hopper_line fields ≡ None
no_hopper (a ∷ b ∷ c ∷ d ∷ e ∷ []) other = absurd (other refl)
no_hopper fields other = refl

pub no_value : (fields : List (List ℕ)) → length fields ≢ 4 → value_line fields ≡ None
no_value (a ∷ b ∷ c ∷ d ∷ []) other = absurd (other refl)
no_value fields other = refl

pub no_texts : (fields : List (List ℕ)) → length fields ≢ 5 → texts_line fields ≡ None
no_texts (a ∷ b ∷ c ∷ d ∷ e ∷ []) other = absurd (other refl)
no_texts fields other = refl

pub no_step_at : (make : ℕ → Step) (fields : List (List ℕ)) → length fields ≢ 1 → step_at make fields ≡ None
no_step_at make (a ∷ []) other = absurd (other refl)
no_step_at make fields other = refl

pub no_do : (fields : List (List ℕ)) → length fields ≢ 1 → do_form fields ≡ None
no_do (a ∷ []) other = absurd (other refl)
no_do fields other = refl

pub no_order : (fields : List (List ℕ)) → length fields ≢ 1 → order_form fields ≡ None
no_order (a ∷ []) other = absurd (other refl)
no_order fields other = refl

pub no_place : (make : ℕ → ℕ → Step) (fields : List (List ℕ)) → length fields ≢ 2 → place_step make fields ≡ None
no_place make (a ∷ b ∷ []) other = absurd (other refl)
no_place make fields other = refl

pub no_fault : (fields : List (List ℕ)) → length fields ≢ 2 → fault_step fields ≡ None
no_fault (a ∷ b ∷ []) other = absurd (other refl)
no_fault fields other = refl

pub no_start : (fields : List (List ℕ)) → length fields ≢ 2 → start_step fields ≡ None
no_start (a ∷ b ∷ []) other = absurd (other refl)
no_start fields other = refl

pub no_pay : (fields : List (List ℕ)) → length fields ≢ 3 → pay_step fields ≡ None
no_pay (a ∷ b ∷ c ∷ []) other = absurd (other refl)
no_pay fields other = refl

pub no_path : (fields : List (List ℕ)) → length fields ≢ 3 → path_step fields ≡ None
no_path (a ∷ b ∷ c ∷ []) other = absurd (other refl)
no_path fields other = refl

pub no_route : (fields : List (List ℕ)) → length fields ≢ 2 → route_step fields ≡ None
no_route (a ∷ b ∷ []) other = absurd (other refl)
no_route fields other = refl

pub no_vend : (fields : List (List ℕ)) → length fields ≢ 2 → vend_step fields ≡ None
no_vend (a ∷ b ∷ []) other = absurd (other refl)
no_vend fields other = refl

pub no_stock : (fields : List (List ℕ)) → length fields ≢ 2 → stock_step fields ≡ None
no_stock (a ∷ b ∷ []) other = absurd (other refl)
no_stock fields other = refl

pub no_change : (fields : List (List ℕ)) → length fields ≢ 2 → change_step fields ≡ None
no_change (a ∷ b ∷ []) other = absurd (other refl)
no_change fields other = refl

pub no_watch : (fields : List (List ℕ)) → length fields ≢ 3 → watch_form fields ≡ None
no_watch (a ∷ b ∷ c ∷ []) other = absurd (other refl)
no_watch fields other = refl

pub no_tap : (fields : List (List ℕ)) → length fields ≢ 2 → tap_form fields ≡ None
no_tap (a ∷ b ∷ []) other = absurd (other refl)
no_tap fields other = refl

pub no_crash : (fields : List (List ℕ)) → length fields ≢ 1 → length fields ≢ 3 → crash_step fields ≡ None
no_crash (a ∷ []) other others = absurd (other refl)
no_crash (a ∷ b ∷ c ∷ []) other others = absurd (others refl)
no_crash fields other others = refl

pub not_alone : {X : Type 0} (said : X) (line : List ℕ) → alone said (slice_split is_space line) ≡ None
not_alone said line = let h = split_some is_space line in rw h.2 refl
