-- Why a text of UDMF is no map, as numbers.
use Rattle.std.proofs.Common.{◌≡◌, ◌≢◌, ◌∙◌, Result, sym, ap, subst}
use Rattle.udmf_map.specs.declared.faults.TextFault.{TextFault}
use Rattle.udmf_map.specs.declared.faults.TextFault.TheVariants as text
use Rattle.udmf_map.specs.Lumps.{LumpBytes}
use Rattle.udmf_map.specs.Reading.{FailsText}
use Rattle.map_answers.specs.declared.sight_status.status.Status.{Status}
use Rattle.doomsight_c.specs.declared.fault.DoomsightFault.{DoomsightFault}
use Rattle.doomsight_c.specs.Faults.{fault_view}
use Rattle.doomsight_c.specs.Lines.{IsOfLibrary, status_in}
use Rattle.doomsight_c.specs.Texts.{IsNoText, status_of_text}

text_is_librarys : (f : TextFault) → IsOfLibrary (status_of_text f)
text_is_librarys (text.Text at) = tt
text_is_librarys (text.Namespace at) = tt
text_is_librarys (text.Value at) = tt
text_is_librarys (text.TooManyVertices count) = tt
text_is_librarys (text.TooManySides count) = tt
text_is_librarys (text.Portal line) = tt
text_is_librarys (text.OffGrid vertex) = tt
text_is_librarys (text.Memory _) = tt

pub no_text : ((s : Status) → IsOfLibrary s → status_in (fault_view s) ≡ s) → (read : Result LumpBytes TextFault) (f : TextFault) → FailsText f read → (s : Status) → s ≡ status_of_text f → (d : DoomsightFault) → d ≡ fault_view s → IsNoText read d
no_text tells read f called s e d is = let as_told = is ∙ ap fault_view e in record {
  refusal = f;
  is = as_told;
  told = ap status_in as_told ∙ tells (status_of_text f) (text_is_librarys f);
  called = called;
}

pub no_text_code : ((s : Status) → IsOfLibrary s → (fault_view s).code ≢ 0) → (f : TextFault) (s : Status) → s ≡ status_of_text f → (d : DoomsightFault) → d ≡ fault_view s → d.code ≢ 0
no_text_code codes f s e d is = subst (λ (x : DoomsightFault). x.code ≢ 0) (sym (is ∙ ap fault_view e)) (codes (status_of_text f) (text_is_librarys f))
