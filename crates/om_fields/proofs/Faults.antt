-- The first faults of headers are the least.
use Rattle.std.proofs.Common.{◌≡◌, ℕ, List, arith}
use Rattle.std.specs.Prelude.{Some, None}
use Rattle.om_fields.specs.Rules.{IsFirstFault, IsUnbroken, first_fault, AreAbove}
use Rattle.om_fields.proofs.FirstFault.{fault_is_least, none_is_unbroken, least_is_first, unbroken_is_none}
use Rattle.om_fields.specs.HeaderFields.{header_rules, early_rules, field_rules}

headers_rise : AreAbove 0 header_rules
headers_rise = (omega arith, (omega arith, (omega arith, (omega arith, tt))))

early-rise : AreAbove 0 early_rules
early-rise = (omega arith, (omega arith, (omega arith, (omega arith, (omega arith, tt)))))

fields-rise : AreAbove 0 field_rules
fields-rise = (omega arith, (omega arith, (omega arith, (omega arith, (omega arith, (omega arith, tt))))))

pub header_fault_is : (file : List ℕ) (rule at : ℕ) → first_fault header_rules file ≡ Some (rule, at) → IsFirstFault header_rules file rule at
header_fault_is file rule at h = fault_is_least 0 header_rules file rule at headers_rise h

pub field_fault_is : (file : List ℕ) (rule at : ℕ) → first_fault field_rules file ≡ Some (rule, at) → IsFirstFault field_rules file rule at
field_fault_is file rule at h = fault_is_least 0 field_rules file rule at fields-rise h

pub headers_unbroken : (file : List ℕ) → first_fault header_rules file ≡ None → IsUnbroken header_rules file
headers_unbroken file h = none_is_unbroken header_rules file h

pub fields_unbroken : (file : List ℕ) → first_fault field_rules file ≡ None → IsUnbroken field_rules file
fields_unbroken file h = none_is_unbroken field_rules file h

pub early_fault_is : (file : List ℕ) (rule at : ℕ) → first_fault early_rules file ≡ Some (rule, at) → IsFirstFault early_rules file rule at
early_fault_is file rule at h = fault_is_least 0 early_rules file rule at early-rise h

pub early_unbroken : (file : List ℕ) → first_fault early_rules file ≡ None → IsUnbroken early_rules file
early_unbroken file h = none_is_unbroken early_rules file h

-- what a reader that answers by the early rules says of the first fault
pub early_first : (file : List ℕ) (rule at : ℕ) → IsFirstFault early_rules file rule at → first_fault early_rules file ≡ Some (rule, at)
early_first file rule at f = least_is_first 0 early_rules file rule at early-rise f

pub early_none : (file : List ℕ) → IsUnbroken early_rules file → first_fault early_rules file ≡ None
early_none file u = unbroken_is_none 0 early_rules file early-rise u
