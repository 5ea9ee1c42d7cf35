-- Numbers of devices.
use Rattle.std.proofs.Common.{ℕ, ◌≡◌, ◌+◌, ◌<◌, true, cond, List, length, get_or, take, sym, ap, ◌∙◌, arith}
use Rattle.std.proofs.lemmas.List.Sums.{count_by_more_yes, sum_by-take-le}
use Rattle.re_terms.specs.Admission.{device_count}
use Rattle.re_terms.specs.Programs.{is_device}
use Rattle.re_terms.specs.declared.program.Decl.{Decl}

-- before a device there are fewer than all devices
pub number_below : (decls : List Decl) (id : ℕ) (d : Decl) → id < length decls → d ≡ get_or decls id d → is_device d ≡ true → device_count (take id decls) < device_count decls
number_below decls id d h e k =
    let more = count_by_more_yes is_device decls id d h (sym (ap is_device e) ∙ k) in
    let most = sum_by-take-le (λ x. cond (is_device x) 1 0) decls (id + 1) in
    omega arith
