pub mod WholeMeaning
