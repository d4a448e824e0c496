-- Facts under the names of a contract's clauses, where one law gives them all.

module _ {A B : Type 0} where
  pub named_value_out_after : A × B → record { value : A; out_after : B }
  named_value_out_after p = record { value = p.0; out_after = p.1 }

  pub named_value_p_after : A × B → record { value : A; p_after : B }
  named_value_p_after p = record { value = p.0; p_after = p.1 }

  pub named_value_part_after : A × B → record { value : A; part_after : B }
  named_value_part_after p = record { value = p.0; part_after = p.1 }

  pub named_value_count_value : A × B → record { value : A; count_value : B }
  named_value_count_value p = record { value = p.0; count_value = p.1 }

  pub named_skip_le_len_room : A × B → record { skip_le_len : A; room : B }
  named_skip_le_len_room p = record { skip_le_len = p.0; room = p.1 }

module _ {A B C : Type 0} where
  pub named_value_p_after_standing : A × (B × C) → record { value : A; p_after : B; standing : C }
  named_value_p_after_standing p = record { value = p.0; p_after = p.1.0; standing = p.1.1 }
