-- The whole page. Assumes nothing.
use Rattle.law_putback.proofs.Demand.{demand_3}
use Rattle.law_putback.specs.Demand.{shift_by}
use Rattle.rules.specs.declared.Function.{Function}
use Rattle.law_page.specs.Page.{Page}
use Rattle.law_page.proofs.Functions.{functions}
use Rattle.law_page.proofs.Letters.{all_letters}
use Rattle.law_page.proofs.TimeValues.{time_values}
use Rattle.law_page.proofs.Modifiers.{modifiers}
use Rattle.law_page.proofs.Examples.{shown}
use Rattle.law_page.proofs.Rows.{rows_hold, more_hold}

pub page : Page
page =
    record {
      functions = functions;
      letters = all_letters;
      invariant = λ set ok a b. let K = demand_3 set ok a b in record { difference = shift_by K.plus K.months K.rest; timediff_is = K.answers; datetimes = K.answers_as_A Function.Datetime };
      time_values = time_values;
      modifiers = modifiers;
      examples = shown;
      worked = λ set ok. (rows_hold set ok, more_hold set ok);
    }
